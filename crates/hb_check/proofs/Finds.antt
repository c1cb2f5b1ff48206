-- What the check of HTML says of one page more.
use Rattle.std.proofs.Common.{◌≡◌, ◌++◌, ◌∷◌, [], ◌==◌, Bool, true, false, arith, List, length, ap, refl, sym, subst, ◌∙◌}
use Rattle.std.proofs.lemmas.Grind.{common_steps}
use Rattle.std.proofs.lemmas.List.Sums.{fold-append}
use Rattle.std.specs.List.{AllZip}
use Rattle.handlebars_helpers.specs.UserAnswers.{Registrations, UserAnswers}
use Rattle.handlebars_html.specs.Faults.{Fault}
use Rattle.handlebars_html.specs.Search.{Pages, Verdict}
use Rattle.hb_check.specs.Says.{SaysHtml, and_faults, or_undecided, all_faults, any_undecided}
use Rattle.hb_check.specs.declared.sources.Sources.{Sources}
use Rattle.hb_check.proofs.Reports.{all_zip-push}

-- these verdicts of these pages, with what they say together
abbrev pub Finds : Registrations → UserAnswers → Sources → List Pages → Bool → List Fault → Type 0
Finds r a ss ps undecided fs =
    (vs : List Verdict) × AllZip (SaysHtml r a ss) ps vs × (undecided ≡ any_undecided vs) × (fs ≡ all_faults vs)

pub finds-next : (r : Registrations) (a : UserAnswers) (ss : Sources) (ps all : List Pages) (p : Pages) (v : Verdict) (b c : Bool)
    (fs gs : List Fault) → all ≡ ps ++ p ∷ [] → Finds r a ss ps b fs → SaysHtml r a ss p v → c ≡ or_undecided b v
    → gs ≡ and_faults fs v → Finds r a ss all c gs
finds-next r a ss ps all p v b c fs gs is (vs, are, undecided, faults) says one more =
    subst (λ (xs : List Pages). Finds r a ss xs c gs) (sym is) (
      vs ++ v ∷ [],
      all_zip-push (SaysHtml r a ss) ps vs p v are says,
      one ∙ ap (λ (x : Bool). or_undecided x v) undecided ∙ sym (fold-append or_undecided false vs (v ∷ [])),
      more ∙ ap (λ (xs : List Fault). and_faults xs v) faults ∙ sym (fold-append and_faults [] vs (v ∷ [])),
    )

pub finds-one : (r : Registrations) (a : UserAnswers) (ss : Sources) (p : Pages) (v : Verdict) (b c : Bool) (fs gs : List Fault)
    → b ≡ false → fs ≡ [] → SaysHtml r a ss p v → c ≡ or_undecided b v → gs ≡ and_faults fs v → Finds r a ss (p ∷ []) c gs
finds-one r a ss p v b c fs gs decided none says one more =
    finds-next r a ss [] (p ∷ []) p v b c fs gs refl ([], tt, decided, none) says one more

pub empty-list : {X : Type 0} (xs : List X) → true ≡ (length xs == 0) → xs ≡ []
empty-list [] is = refl
empty-list (x ∷ xs) is = grind (arith, common_steps)
