-- Findings that a loop adds one after another.
use Rattle.std.proofs.Common.{◌≡◌, ◌++◌, [], List, map, sym, ap, ◌∙◌, subst, append_assoc}
use Rattle.std.proofs.lemmas.List.{append-nil}
use Rattle.handlebars_names.specs.Faults as faults
use Rattle.handlebars_names.specs.NamesView.{finding_of, AddsFindings}
use Rattle.handlebars_names.specs.declared.fault.Finding.{Finding}

-- What is found so far, followed by what the rest gives, is what there was first, followed by all.
abbrev pub Accumulates : List Finding → List Finding → List faults.Finding → List faults.Finding → Type 0
Accumulates first now rest all = map finding_of now ++ rest ≡ map finding_of first ++ all

pub leads-goes : (first now next : List Finding) (xs rest all : List faults.Finding)
    → Accumulates first now (xs ++ rest) all → AddsFindings now next xs → Accumulates first next rest all
leads-goes first now next xs rest all l f =
    ap (λ z. z ++ rest) f ∙ append_assoc (map finding_of now) xs rest ∙ l

pub leads-ends : (first now : List Finding) (rest all : List faults.Finding)
    → Accumulates first now rest all → rest ≡ [] → AddsFindings first now all
leads-ends first now rest all l e = sym (append-nil (map finding_of now)) ∙ subst (λ z. Accumulates first now z all) e l
