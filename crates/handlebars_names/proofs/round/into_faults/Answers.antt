use Rattle.std.proofs.Common.{rules, ◌≡◌, ◌++◌, List, [], ◌∷◌, map, length, refl, sym, ap, ◌∙◌, append_assoc, arith}
use Rattle.std.proofs.lemmas.List.{append-nil, nil_from_length}
use Rattle.handlebars_names.specs.Faults as faults
use Rattle.handlebars_names.specs.NamesView.{finding_of}
use Rattle.handlebars_names.specs.Search.{faults_among}
use Rattle.handlebars_names.specs.declared.fault.Finding.{Finding}
use Rattle.handlebars_names.proofs.round.into_faults.Goals as goal

among-more : (x : faults.Finding) (xs : List faults.Finding) → faults_among (x ∷ xs) ≡ faults_among (x ∷ []) ++ faults_among xs
among-more (faults.fault f) xs = refl
among-more (faults.includes n h) xs = refl

findings-more : (now next all : List faults.Fault) (f : Finding) (was left : List Finding) → was ≡ f ∷ left
    → next ≡ now ++ faults_among (finding_of f ∷ []) → now ++ faults_among (map finding_of was) ≡ all
    → next ++ faults_among (map finding_of left) ≡ all
findings-more now next all f was left read adds l =
    ap (λ (zs : List faults.Fault). zs ++ faults_among (map finding_of left)) adds
    ∙ append_assoc now (faults_among (finding_of f ∷ [])) (faults_among (map finding_of left))
    ∙ ap (λ (zs : List faults.Fault). now ++ zs) (sym (among-more (finding_of f) (map finding_of left)))
    ∙ ap (λ (zs : List Finding). now ++ faults_among (map finding_of zs)) (sym read) ∙ l

findings-end : (now : List faults.Fault) (was given all : List Finding) → was ≡ [] → given ≡ all
    → now ++ faults_among (map finding_of was) ≡ faults_among (map finding_of given) → now ≡ faults_among (map finding_of all)
findings-end now was given all none is l =
    sym (append-nil now) ∙ sym (ap (λ (zs : List Finding). now ++ faults_among (map finding_of zs)) none) ∙ l
    ∙ ap (λ (zs : List Finding). faults_among (map finding_of zs)) is

pub findings-init : goal.findings-init
findings-init c = record {
  left = search rules;
  sized = c.into_iter-finding-iterator.ensures.into_iter_gives.1 ∙ c.args.findings.ok.0
      ∙ ap length (sym c.into_iter-finding-iterator.ensures.into_iter_gives.0);
}

pub findings-preserved : goal.findings-preserved
findings-preserved c =
    let was = c.findings.invariant.sized in
    let gone = c.in-Some.ensures.steps.1 in
    let short = ap length c.in-Some.ensures.steps.0 in
    record {
      left = findings-more _ _ _ c.in-Some.finding _ _ c.in-Some.ensures.steps.0 c.in_ok-push_if_fault.ensures c.findings.invariant.left;
      sized = omega arith;
    }

pub returns : goal.returns
returns c =
    findings-end _ _ _ _ (nil_from_length _ (sym c.findings.invariant.sized ∙ c.in-None.ensures.steps.0))
    c.into_iter-finding-iterator.ensures.into_iter_gives.0 c.findings.invariant.left
