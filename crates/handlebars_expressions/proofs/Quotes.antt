-- Texts in quotes, piece by piece between marks.
use Rattle.std.proofs.Common.{◌≡◌, ℕ, ◌<◌, Bool, true, false, cond, not, List, [], ◌∷◌, ◌++◌, length, get_or, refl, sym, ap, subst, ◌∙◌, append_assoc, arith}
use Rattle.std.specs.Prelude.{◌==◌}
use Rattle.std.specs.List.{AllByRecursion, position_or_len, before_first, after_first}
use Rattle.std.proofs.lemmas.Bool.{eqb-true, not-true}
use Rattle.std.proofs.lemmas.List.{take_all}
use Rattle.std.proofs.lemmas.List.Sums.{split_at_first, passes_at_first}
use Rattle.handlebars_base.proofs.Runs.{prefix_pass}
use Rattle.handlebars_base.specs.Texts.{starts}
use Rattle.handlebars_expressions.specs.LiteralValue.{plain_singles, escaped_doubles}

abbrev pub Lacks : ℕ → List ℕ → Type 0
Lacks mark t = AllByRecursion (λ b. not (b == mark) ≡ true) t

-- a text around the first occurrence of a mark
pub record SplitAtFirst (mark : ℕ) (t prefix after : List ℕ) : Type 0 where
  pub whole : t ≡ prefix ++ mark ∷ after
  pub first : Lacks mark prefix

pub is_split_at_first : (mark : ℕ) (t prefix after : List ℕ) → position_or_len (λ b. b == mark) t < length t → prefix ≡ before_first (λ b. b == mark) t → after ≡ after_first (λ b. b == mark) t → SplitAtFirst mark t prefix after
is_split_at_first mark t prefix after lt prefix_is after_is =
    let is : get_or t (position_or_len (λ b. b == mark) t) 0 ≡ mark = eqb-true _ mark (passes_at_first (λ b. b == mark) t 0 lt) in
    let whole : t ≡ before_first (λ b. b == mark) t ++ mark ∷ after_first (λ b. b == mark) t =
    split_at_first (λ b. b == mark) t 0 lt ∙ ap (λ (z : ℕ). before_first (λ b. b == mark) t ++ z ∷ after_first (λ b. b == mark) t) is in
    record {
      whole = rw (prefix_is, after_is) whole;
      first = subst (Lacks mark) (sym prefix_is) (prefix_pass (λ b. not (b == mark)) t);
    }

pub lacks_mark : (mark : ℕ) (t : List ℕ) → position_or_len (λ b. b == mark) t ≡ length t → Lacks mark t
lacks_mark mark t is = subst (Lacks mark) (take_all (position_or_len (λ b. b == mark) t) t (omega arith)) (prefix_pass (λ b. not (b == mark)) t)

-- ---- single quotes

plain_singles-lacks : (f r : List ℕ) → Lacks 92 f → plain_singles (f ++ r) ≡ f ++ plain_singles r
plain_singles-lacks [] r h = refl
plain_singles-lacks (b ∷ f) r h = rw (not-true (b == 92) h.0) (ap (λ (z : List ℕ). b ∷ z) (plain_singles-lacks f r h.1))

pub plain_singles-none : (t : List ℕ) → Lacks 92 t → plain_singles t ≡ t
plain_singles-none [] h = refl
plain_singles-none (b ∷ t) h = rw (not-true (b == 92) h.0) (ap (λ (z : List ℕ). b ∷ z) (plain_singles-none t h.1))

abbrev starts_single : List ℕ → Bool
starts_single t = starts (λ b. b == 39) t

plain_singles-around : (t prefix after : List ℕ) → SplitAtFirst 92 t prefix after → plain_singles t ≡ prefix ++ cond (starts_single after) (plain_singles after) (92 ∷ plain_singles after)
plain_singles-around t prefix after h = ap plain_singles h.whole ∙ plain_singles-lacks prefix (92 ∷ after) h.first

-- ---- as the loop goes: what is done, and what is left

pub plain_iteration-retained : (done whole t prefix after : List ℕ) → done ++ plain_singles t ≡ whole → SplitAtFirst 92 t prefix after → starts (λ b. b == 39) after ≡ false → ((done ++ prefix) ++ 92 ∷ []) ++ plain_singles after ≡ whole
plain_iteration-retained done whole t prefix after h around other =
    let left : plain_singles t ≡ prefix ++ 92 ∷ plain_singles after = rw other at (plain_singles-around t prefix after around) in
    append_assoc (done ++ prefix) (92 ∷ []) (plain_singles after)
    ∙ append_assoc done prefix (92 ∷ plain_singles after)
    ∙ ap (λ (z : List ℕ). done ++ z) (sym left)
    ∙ h

pub plain_iteration-dropped : (done whole t prefix after : List ℕ) → done ++ plain_singles t ≡ whole → SplitAtFirst 92 t prefix after → starts (λ b. b == 39) after ≡ true → (done ++ prefix) ++ plain_singles after ≡ whole
plain_iteration-dropped done whole t prefix after h around single =
    let left : plain_singles t ≡ prefix ++ plain_singles after = rw single at (plain_singles-around t prefix after around) in
    append_assoc done prefix (plain_singles after)
    ∙ ap (λ (z : List ℕ). done ++ z) (sym left)
    ∙ h

-- ---- double quotes

escaped_doubles-lacks : (f r : List ℕ) → Lacks 34 f → escaped_doubles (f ++ r) ≡ f ++ escaped_doubles r
escaped_doubles-lacks [] r h = refl
escaped_doubles-lacks (b ∷ f) r h = rw (not-true (b == 34) h.0) (ap (λ (z : List ℕ). b ∷ z) (escaped_doubles-lacks f r h.1))

pub escaped_doubles-none : (t : List ℕ) → Lacks 34 t → escaped_doubles t ≡ t
escaped_doubles-none [] h = refl
escaped_doubles-none (b ∷ t) h = rw (not-true (b == 34) h.0) (ap (λ (z : List ℕ). b ∷ z) (escaped_doubles-none t h.1))

pub escaped_doubles-around : (t prefix after : List ℕ) → SplitAtFirst 34 t prefix after → escaped_doubles t ≡ prefix ++ 92 ∷ 34 ∷ escaped_doubles after
escaped_doubles-around t prefix after h = ap escaped_doubles h.whole ∙ escaped_doubles-lacks prefix (34 ∷ after) h.first

pub escaped_iteration : (done whole t prefix after : List ℕ) → done ++ escaped_doubles t ≡ whole → SplitAtFirst 34 t prefix after → ((done ++ prefix) ++ 92 ∷ 34 ∷ []) ++ escaped_doubles after ≡ whole
escaped_iteration done whole t prefix after h around =
    append_assoc (done ++ prefix) (92 ∷ 34 ∷ []) (escaped_doubles after)
    ∙ append_assoc done prefix (92 ∷ 34 ∷ escaped_doubles after)
    ∙ ap (λ (z : List ℕ). done ++ z) (sym (escaped_doubles-around t prefix after around))
    ∙ h
