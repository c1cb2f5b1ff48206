-- What the loop that reads a literal preserves.
use Rattle.std.proofs.Common.{◌≡◌, ℕ, zero, suc, ◌+◌, ◌-◌, ◌<◌, ◌≤◌, Bool, true, false, ◌&&◌, List, [], ◌∷◌, ◌++◌, length, get_or, take, drop, map, reverse, Option, Some, None, refl, sym, ap, ◌∙◌, append_assoc, arith, ◌⊎◌, inl, inr, length-append, max}
use Rattle.std.specs.List.{slice_get}
use Rattle.std.specs.Option.{option_map, MatchOption}
use Rattle.std.proofs.Common.{Result, Ok, Err, IfOk, IfSome}
use Rattle.std.specs.Str.{IsCharBoundary}
use Rattle.std.proofs.lemmas.List.{take_at, drop_at, get_or-drop, reverse-append, length-reverse, length-map}
use Rattle.handlebars_base.specs.Texts.{starts}
use Rattle.handlebars_expressions.specs.Runs.{goes, ends, stuck}
use Rattle.handlebars_expressions.specs.Literal.{Bracket, continues_literal}
use Rattle.handlebars_expressions.specs.LiteralReading.{Lexeme, token_at, LiteralState, ahead, innermost, outer, StepFinding, taken, literal_step, most, all_in_range, literal_token_to, literal_at, after}
use Rattle.handlebars_expressions.specs.LiteralView.{bracket_of, stack_of, literal_token_of}
use Rattle.handlebars_expressions.specs.Laws.{HasLiteral, NoLiteral}
use Rattle.handlebars_expressions.specs.declared.literal.Bracket.{Bracket as ReadBracket}
use Rattle.handlebars_expressions.specs.declared.literal.LiteralToken.{LiteralToken}
use Rattle.handlebars_expressions.proofs.Prefixes.{continues_literal-ascii}
use Rattle.handlebars_expressions.proofs.Stepping.{last, none, read_all-some, read_all-none, Still, still-goes}
use Rattle.handlebars_expressions.proofs.LiteralsFound.{step_shorter, shortens, literal_at-some, literal_at-none}

-- ---- open brackets

pub stack-push : (items : List ReadBracket) (k : ReadBracket) → stack_of (items ++ k ∷ []) ≡ bracket_of k ∷ stack_of items
stack-push items k = ap (map bracket_of) (reverse-append items (k ∷ []))

pub stack-length : (items : List ReadBracket) → length (stack_of items) ≡ length items
stack-length items = length-map (reverse items) bracket_of ∙ length-reverse items

snoc : (items : List ReadBracket) → (items ≡ []) ⊎ ((prefix : List ReadBracket) × (k : ReadBracket) × (items ≡ prefix ++ k ∷ []))
snoc [] = inl refl
snoc (k ∷ items) = elim (snoc items) [
  | inl bare ↦ inr ([], k, ap (λ (z : List ReadBracket). k ∷ z) bare)
  | inr some ↦ inr (k ∷ some.0, some.1, ap (λ (z : List ReadBracket). k ∷ z) some.2)
]

slice_get-last : (prefix : List ReadBracket) (k : ReadBracket) (n : ℕ) → n ≡ length prefix → slice_get (prefix ++ k ∷ []) n ≡ Some k
slice_get-last [] k zero e = refl
slice_get-last [] k (suc n) e = absurd (omega (arith, e))
slice_get-last (j ∷ prefix) k zero e = absurd (omega (arith, e))
slice_get-last (j ∷ prefix) k (suc n) e = slice_get-last prefix k n (omega (arith, e))

stack-innermost : (items : List ReadBracket) → option_map bracket_of (slice_get items (length items - 1)) ≡ innermost (stack_of items)
stack-innermost items = elim (snoc items) [
  | inl bare ↦ rw bare refl
  | inr some ↦
      let last : slice_get (some.0 ++ some.1 ∷ []) (length (some.0 ++ some.1 ∷ []) - 1) ≡ Some some.1 =
      slice_get-last some.0 some.1 (length (some.0 ++ some.1 ∷ []) - 1) (omega (arith, length-append some.0 (some.1 ∷ []))) in
      rw some.2 (ap (option_map bracket_of) last ∙ sym (ap innermost (stack-push some.0 some.1)))
]

pub stack-pop : (items : List ReadBracket) → stack_of (take (length items - 1) items) ≡ outer (stack_of items)
stack-pop items = elim (snoc items) [
  | inl bare ↦ rw bare refl
  | inr some ↦
      let prefix : take (length (some.0 ++ some.1 ∷ []) - 1) (some.0 ++ some.1 ∷ []) ≡ some.0 =
      take_at some.0 (some.1 ∷ []) (length (some.0 ++ some.1 ∷ []) - 1) (omega (arith, length-append some.0 (some.1 ∷ []))) in
      rw some.2 (ap stack_of prefix ∙ sym (ap outer (stack-push some.0 some.1)))
]

abbrev pub reading_position : Bool → List ReadBracket → LiteralState
reading_position true ks = ahead (stack_of ks)
reading_position false ks = after (stack_of ks)

-- ---- an iteration of the loop

step_at : (b : Bool) (items : List ReadBracket) (t : List ℕ) → literal_step (reading_position b items) t ≡ taken (stack_of items) (token_at b (innermost (stack_of items)) t)
unfolding token_at
step_at true items t = refl
step_at false items t = refl

pub top_token : (b : Bool) (items slice : List ReadBracket) (o : Option ReadBracket) (t : List ℕ) (token : Lexeme) → token ≡ token_at b (option_map bracket_of o) t
    → o ≡ slice_get slice (length slice - 1) → slice ≡ items → token ≡ token_at b (innermost (stack_of items)) t
top_token b items slice o t token is top same =
    let at_items : slice_get slice (length slice - 1) ≡ slice_get items (length items - 1) = ap (λ (z : List ReadBracket). slice_get z (length z - 1)) same in
    let inner : option_map bracket_of o ≡ innermost (stack_of items) = ap (option_map bracket_of) (top ∙ at_items) ∙ stack-innermost items in
    is ∙ ap (λ (z : Option Bracket). token_at b z t) inner

pub loop_step : (b : Bool) (items : List ReadBracket) (t : List ℕ) (token : Lexeme) → token ≡ token_at b (innermost (stack_of items)) t
    → literal_step (reading_position b items) t ≡ taken (stack_of items) token
loop_step b items t token is = step_at b items t ∙ sym (ap (taken (stack_of items)) is)

-- what these findings add to what is known
abbrev pub tally : ℕ → Bool → List StepFinding → ℕ × Bool
tally depth in_range xs = (most depth xs, all_in_range in_range xs)

tally-more : (depth depth' : ℕ) (in_range in_range' : Bool) (x : StepFinding) (xs : List StepFinding) → depth' ≡ max depth x.height → in_range' ≡ (in_range && x.within_range) → tally depth in_range (x ∷ xs) ≡ tally depth' in_range' xs
tally-more depth depth' in_range in_range' x xs more within_range = sym (ap (λ (z : ℕ). tally z in_range' xs) more ∙ ap (λ (z : Bool). tally (max depth x.height) z xs) within_range)

-- what holds at each iteration, with this many brackets open
pub record LoopInvariant (t0 : List ℕ) (s : LiteralState) (n : ℕ) (t : List ℕ) (depth : ℕ) (in_range : Bool) : Type 0 where
  pub still : Still literal_step (ahead []) t0 (tally 0 true) s t (tally depth in_range)
  pub within : n + length t ≤ length t0
  pub deep : depth + length t ≤ length t0
  pub whole : (prefix : List ℕ) × (t0 ≡ prefix ++ t)

pub loop_goes : (t0 : List ℕ) (s : LiteralState) (n : ℕ) (t : List ℕ) (depth : ℕ) (in_range : Bool) (x : StepFinding) (s' : LiteralState) (n' : ℕ) (t' : List ℕ) (depth' : ℕ) (in_range' : Bool) → literal_step s t ≡ goes x s' t'
    → depth' ≡ max depth x.height → in_range' ≡ (in_range && x.within_range) → n' ≤ n + 1 → x.height ≤ n + 1 → LoopInvariant t0 s n t depth in_range → LoopInvariant t0 s' n' t' depth' in_range'
loop_goes t0 s n t depth in_range x s' n' t' depth' in_range' is more within_range up deep h =
    let step = step_shorter s t x s' t' is in
    let less : length t' < length t = step.shorter in
    record {
      still = still-goes literal_step (ahead []) t0 (tally 0 true) s t (tally depth in_range) x s' t' (tally depth' in_range') is (λ xs. tally-more depth depth' in_range in_range' x xs more within_range) h.still;
      within = omega (arith, h.within);
      deep = omega (arith, h.within, h.deep);
      whole = (h.whole.0 ++ step.prefix, h.whole.1 ∙ ap (λ (z : List ℕ). h.whole.0 ++ z) step.whole ∙ sym (append_assoc h.whole.0 step.prefix t'));
    }

-- ---- the end of the loop

-- if nothing continues the literal, the text may be split there
end_ascii : (rest : List ℕ) → starts continues_literal rest ≡ false → 0 < length rest → get_or rest 0 0 < 128
end_ascii [] h some = absurd (omega arith)
end_ascii (b ∷ rest) h some = continues_literal-ascii b h

pub end_shorter : (t rest : List ℕ) → ((prefix : List ℕ) × (t ≡ prefix ++ rest)) → length rest ≤ length t
end_shorter t rest h = omega (arith, ap length h.1, length-append h.0 rest)

pub end_boundary : (t rest : List ℕ) → ((prefix : List ℕ) × (t ≡ prefix ++ rest)) → starts continues_literal rest ≡ false → IsCharBoundary t (length t - length rest)
end_boundary t rest h stop =
    let k = length t - length rest in
    let long : length t ≡ length h.0 + length rest = ap length h.1 ∙ length-append h.0 rest in
    let left : drop k t ≡ rest = ap (drop k) h.1 ∙ drop_at h.0 rest k (omega arith) in
    let at : get_or (drop k t) 0 0 ≡ get_or t (k + 0) 0 = get_or-drop k t 0 0 in
    let same : get_or t (k + 0) 0 ≡ get_or t k 0 = ap (λ (z : ℕ). get_or t z 0) (omega arith) in (
      omega arith,
      λ lt le.
          let small : get_or rest 0 0 < 128 = end_ascii rest stop (omega arith) in
          let first : get_or t k 0 ≡ get_or rest 0 0 = sym same ∙ sym at ∙ ap (λ (z : List ℕ). get_or z 0 0) left in
          absurd (omega arith),
    )

pub loop_ends : (t rest : List ℕ) (s : LiteralState) (depth : ℕ) (in_range : Bool) → Still literal_step (ahead []) t (tally 0 true) s rest (tally depth in_range) → literal_step s rest ≡ ends
    → literal_at t ≡ literal_token_to t rest depth in_range
unfolding literal_at
loop_ends t rest s depth in_range still is =
    let h = still.ran [] rest (last is) in
    let goes_so = read_all-some literal_step shortens (length t + 1) (ahead []) t h.0 rest (omega arith) h.1 in
    let depth_is : most 0 h.0 ≡ depth = ap (λ (z : ℕ × Bool). z.0) h.2 in
    let in_range_is : all_in_range true h.0 ≡ in_range = ap (λ (z : ℕ × Bool). z.1) h.2 in
    rw (goes_so, depth_is, in_range_is) refl

pub ends_within : (n depth : ℕ) (read : Option LiteralToken) → depth ≤ n → IfSome read (λ slice. slice.depth ≡ depth) → IfSome read (λ slice. slice.depth ≤ n)
ends_within n depth None le h = h
ends_within n depth (Some slice) le h = omega (arith, le, h)

pub loop_misfit : (t rest : List ℕ) (s : LiteralState) (depth : ℕ) (in_range : Bool) → Still literal_step (ahead []) t (tally 0 true) s rest (tally depth in_range) → literal_step s rest ≡ stuck → literal_at t ≡ None
unfolding literal_at
loop_misfit t rest s depth in_range still is = rw (read_all-none literal_step (length t + 1) (ahead []) t (still.failed (none is))) refl

-- ---- what the reading says about the relation

reading_reflects : (t : List ℕ) (read : Option LiteralToken) → option_map literal_token_of read ≡ literal_at t → MatchOption read (NoLiteral t) (λ slice. HasLiteral t (literal_token_of slice))
reading_reflects t None e = literal_at-none t (sym e)
reading_reflects t (Some slice) e = literal_at-some t (literal_token_of slice) (sym e)

pub result_reflects : {E : Type 0} (t : List ℕ) (r : Result (Option LiteralToken) E) → IfOk r (λ read. option_map literal_token_of read ≡ literal_at t)
    → IfOk r (λ read. MatchOption read (NoLiteral t) (λ slice. HasLiteral t (literal_token_of slice)))
result_reflects t (Ok read) h = reading_reflects t read h
result_reflects t (Err e) h = tt
