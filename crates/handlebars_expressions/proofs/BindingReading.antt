-- Reading block parameters from left to right, as functions on lists.
use Rattle.std.specs.Prelude.{◌==◌, if◌then◌else◌, Option, Some, None}
use Rattle.std.specs.List.{prefix_len}
use Rattle.handlebars_base.specs.Bytes.{Text, after_white, is_symbol}
use Rattle.handlebars_base.specs.Optional.{◌>>=◌, with_or}
use Rattle.handlebars_base.specs.Texts.{after_byte, symbols_of, after_symbols}
use Rattle.handlebars_expressions.specs.Binding.{bar, after_beginning, BoundNames, unbound, bound, both_bound}

-- symbols, at least one, and what follows them
unfoldable pub symbols_at : Text → Option (Text × Text)
symbols_at t = if prefix_len is_symbol t == 0 then None else Some (symbols_of t, after_symbols t)

-- a name after optional whitespace, and what follows it
abbrev pub name_at : Text → Option (Text × Text)
name_at t = symbols_at (after_white t)

-- what follows a bar after optional whitespace
abbrev pub after_last : Text → Option Text
after_last t = after_byte bar (after_white t)

-- If no symbol is at the start, another name needs whitespace before it.
abbrev pub other_at : Text → Text → Option (BoundNames × Text)
other_at name t = name_at t >>= λ p. after_last p.1 >>= λ r. Some (both_bound name p.0, r)

-- names, and the bar after them
abbrev pub names_at : Text → Option (BoundNames × Text)
names_at t = name_at t >>= λ p. with_or (after_last p.1) (λ r. Some (bound p.0, r)) (other_at p.0 p.1)

-- the block parameters at the start, as they are read
abbrev pub binding_at : Text → Option (BoundNames × Text)
binding_at t = with_or (after_beginning t) names_at (Some (unbound, t))
