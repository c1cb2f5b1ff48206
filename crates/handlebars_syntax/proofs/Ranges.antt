-- Ranges of tags, and of the rest of a line.
use Rattle.std.proofs.Common.{◌≡◌, ℕ, ◌+◌, ◌-◌, ◌<◌, ◌≤◌, Bool, true, false, not, ◌++◌, length, take, drop, get_or, refl, sym, ap, ◌∙◌, subst, append_assoc, arith, inl, inr, length-append, length-drop, IsCharBoundary, IsUtf8}
use Rattle.std.specs.Prelude.{◌==◌, ◌||◌}
use Rattle.std.specs.List.{prefix_len}
use Rattle.std.proofs.lemmas.Bool.{or_cases, eqb-true}
use Rattle.std.proofs.lemmas.List.{get_or-drop, take-append-drop}
use Rattle.std.proofs.lemmas.List.Sums.{prefix_len-le-length, prefix_len_stops}
use Rattle.handlebars_base.specs.Bytes.{Text, newline, carriage_return}
use Rattle.handlebars_base.proofs.Ends.{IsCharBoundary-end}
use Rattle.handlebars_lexer.specs.Tag.{Tag, Tildes, IsTag, NoTag}
use Rattle.handlebars_syntax.specs.Range.{IsTagFrom, a_tag, no_tag, LiesIn, is_in_line}

-- ---- the rest of a line

not-false : (b : Bool) → not b ≡ false → b ≡ true
not-false true e = refl
not-false false e = cc

is_in_line-ascii : (b : ℕ) → is_in_line b ≡ false → b < 128
is_in_line-ascii b h = elim (or_cases (b == newline) (b == carriage_return) (not-false ((b == newline) || (b == carriage_return)) h)) [
  | inl is ↦ let e = eqb-true b newline is in omega arith
  | inr is ↦ let e = eqb-true b carriage_return is in omega arith
]

-- the number of bytes up to the end of the line
abbrev pub line_len : Text → ℕ
line_len t = prefix_len is_in_line t

pub line-within : (source : Text) (start : ℕ) → start ≤ length source → start + line_len (drop start source) ≤ length source
line-within source start within = omega (arith, prefix_len-le-length is_in_line (drop start source), length-drop start source)

IsCharBoundary-line : (source : Text) (start : ℕ) → start ≤ length source → IsCharBoundary source (start + line_len (drop start source))
IsCharBoundary-line source start within =
    let n = line_len (drop start source) in (
      line-within source start within,
      λ lt le.
          let stops = prefix_len_stops is_in_line (drop start source) 0 (omega (arith, length-drop start source)) in
          let low = is_in_line-ascii (get_or source (start + n) 0) (ap is_in_line (sym (get_or-drop start source n 0)) ∙ stops) in
          absurd (omega arith),
    )

pub LiesIn-line : (source : Text) (start end : ℕ) → IsCharBoundary source start → end ≡ start + line_len (drop start source) → LiesIn source start end
LiesIn-line source start end starts is = record {
  ordered = omega arith;
  starts = starts;
  ends = subst (IsCharBoundary source) (sym is) (IsCharBoundary-line source start starts.0);
}

-- ---- a tag

pub tag-end : (source token rest : Text) (start : ℕ) → start ≤ length source → drop start source ≡ token ++ rest
    → length source - length rest ≡ start + length token
tag-end source token rest start within parts = omega (arith, ap length parts, length-append token rest, length-drop start source)

pub LiesIn-tag : (source token rest : Text) (start : ℕ) → IsUtf8 rest → IsCharBoundary source start → drop start source ≡ token ++ rest
    → LiesIn source start (length source - length rest)
LiesIn-tag source token rest start utf8 starts parts = record {
  ordered = omega (arith, tag-end source token rest start starts.0 parts);
  starts = starts;
  ends = IsCharBoundary-end source rest utf8
      (take start source ++ token, sym (take-append-drop start source) ∙ ap (λ (t : Text). take start source ++ t) parts ∙ sym (append_assoc (take start source) token rest));
}

pub IsTagFrom-tag : (source token rest : Text) (start : ℕ) (tag : Tag) (tildes : Tildes) → start ≤ length source
    → drop start source ≡ token ++ rest → IsTag true token rest tag tildes → IsTagFrom source start (length source - length rest)
IsTagFrom-tag source token rest start tag tildes within parts is =
    subst (IsTagFrom source start) (sym (tag-end source token rest start within parts)) (a_tag token rest tag tildes parts is)

pub IsTagFrom-none : (source : Text) (start end : ℕ) → NoTag true (drop start source) → end ≡ start + line_len (drop start source) → IsTagFrom source start end
IsTagFrom-none source start end none is = subst (IsTagFrom source start) (sym is) (no_tag none)
