use Rattle.std.proofs.Common.{refl}
use Rattle.handlebars_base.proofs.OptionBinds.{is_empty_length, nonempty}
use Rattle.handlebars_expressions.proofs.Bindings.{name_at-none, name_at-is, none_bound, names_bound}
use Rattle.handlebars_expressions.proofs.binding.split_binding.Goals as goal

pub returns-then-is_empty : goal.returns-then-is_empty
returns-then-is_empty c =
    none_bound c.in-Some.ensures (rw (name_at-none c.in-Some.rest.now c.after_white.ensures c.symbols.ensures.prefix (is_empty_length _ c.if-is_empty.ensures)) refl)

pub returns-in-Some-after_byte : goal.returns-in-Some-after_byte
returns-in-Some-after_byte c =
    let first = name_at-is c.in-Some.rest.now c.after_white.ensures c.symbols.ensures.prefix c.symbols.ensures.rest (nonempty _ c.if-is_empty.ensures) in
    names_bound c.in-Some.ensures (rw (first, ← c.after_white-rest.ensures, ← c.in-Some-after_byte.ensures) refl)

pub returns-then-is_empty-2 : goal.returns-then-is_empty-2
returns-then-is_empty-2 c =
    let first = name_at-is c.in-Some.rest.now c.after_white.ensures c.symbols.ensures.prefix c.symbols.ensures.rest (nonempty _ c.if-is_empty.ensures) in
    let none = name_at-none c.symbols.result.1.now c.after_white-rest.ensures c.symbols-2.ensures.prefix (is_empty_length _ c.if-is_empty-2.ensures) in
    none_bound c.in-Some.ensures (rw (first, none, ← c.after_white-rest.ensures, ← c.in_default-after_byte.ensures) refl)

pub returns-in_err-rest : goal.returns-in_err-rest
returns-in_err-rest c =
    let first = name_at-is c.in-Some.rest.now c.after_white.ensures c.symbols.ensures.prefix c.symbols.ensures.rest (nonempty _ c.if-is_empty.ensures) in
    let other = name_at-is c.symbols.result.1.now c.after_white-rest.ensures c.symbols-2.ensures.prefix c.symbols-2.ensures.rest (nonempty _ c.if-is_empty-2.ensures) in
    rw (c.from_residual.ensures) (none_bound c.in-Some.ensures
    (rw (first, other, ← c.after_white-rest.ensures, ← c.in_default-after_byte.ensures, ← c.after_white-2.ensures, ← c.in_err-rest.ensures) refl))

pub returns : goal.returns
returns c =
    let first = name_at-is c.in-Some.rest.now c.after_white.ensures c.symbols.ensures.prefix c.symbols.ensures.rest (nonempty _ c.if-is_empty.ensures) in
    let other = name_at-is c.symbols.result.1.now c.after_white-rest.ensures c.symbols-2.ensures.prefix c.symbols-2.ensures.rest (nonempty _ c.if-is_empty-2.ensures) in
    names_bound c.in-Some.ensures
    (rw (first, other, ← c.after_white-rest.ensures, ← c.in_default-after_byte.ensures, ← c.after_white-2.ensures, ← c.in_ok-rest.ensures) refl)
