use Rattle.std.proofs.Common.{◌<◌, length, Bool, true, false, MatchBool, lit<, rules, List, IsTrue, arith, tests}
use Rattle.std.specs.List.{HoldsAt, AllWithin, All}
use Rattle.std.proofs.lemmas.Iterator.{cases_from_all}
use Rattle.std.proofs.lemmas.Iterator.Splits.{YieldsList-from_str_split}
use Rattle.std.proofs.lemmas.Iterator.Search.{true_from_All}
use Rattle.hb_build.specs.Name.{Name, IsPart, parts}
use Rattle.hb_build.proofs.name.is_acceptable.Goals as goal

-- each part is one, or some part is none
abbrev Answer : Bool → List Name → Type 0
Answer r xs = MatchBool r (AllWithin IsPart xs 0 (length xs)) ((k : _) × (k < length xs) × HoldsAt (λ x. IsPart x → ⊥) xs k)

all_from_true : (r : Bool) (xs : List Name) → Answer r xs → IsTrue r → All IsPart xs
all_from_true true xs h _ = λ k d l. h k d (omega arith) l
all_from_true false xs h e = absurd (search rules)

pub returns : goal.returns
returns c =
    let ps = parts c.args.name.now in
    let by_call : Answer c.all.result ps = cases_from_all _ _ _ IsPart (λ x. IsPart x → ⊥) c.all.ensures.ran
    (YieldsList-from_str_split 47 c.args.name.now (lit< tt) c.split.ensures.text c.split.ensures.has_more c.split.ensures.pattern)
    (λ x q k. search (rules, tests)) (λ x q k. search (rules, tests)) in
    (all_from_true c.all.result ps by_call, λ h. true_from_All IsPart (λ x. IsPart x → ⊥) c.all.result ps (λ x p n. n p) by_call h)
