-- Faults that a loop finds one after another.
use Rattle.std.proofs.Common.{◌≡◌, ◌++◌, [], List, map, sym, ap, ◌∙◌, append_assoc}
use Rattle.std.proofs.lemmas.List.{append-nil}
use Rattle.handlebars_markup.specs.Faults.{Fault}
use Rattle.handlebars_markup.specs.FaultsView.{fault_of, AddsFindings}
use Rattle.handlebars_markup.specs.declared.fault.MarkupFault.{MarkupFault}

-- What is found so far, followed by what the rest gives, is what there was first, followed by all.
abbrev pub Accumulates : List MarkupFault → List MarkupFault → List Fault → List Fault → Type 0
Accumulates first now rest all = map fault_of now ++ rest ≡ map fault_of first ++ all

pub leads-goes : (first now next : List MarkupFault) (xs rest all : List Fault)
    → Accumulates first now (xs ++ rest) all → AddsFindings now next xs → Accumulates first next rest all
leads-goes first now next xs rest all l f =
    ap (λ z. z ++ rest) f ∙ append_assoc (map fault_of now) xs rest ∙ l

pub leads-ends : (first now : List MarkupFault) (rest all : List Fault)
    → Accumulates first now rest all → rest ≡ [] → AddsFindings first now all
leads-ends first now rest all l e = sym (append-nil (map fault_of now)) ∙ rw e at l
