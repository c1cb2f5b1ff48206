-- One more item in the first pass.
use Rattle.std.proofs.Common.{true, List, [], ◌∷◌, ◌++◌, Some, subst, sym, String, string_bytes, refl}
use Rattle.std.specs.declared.alloc.Global.{Global}
use Rattle.hb_build.specs.Name.{Name, names_of}
use Rattle.hb_build.proofs.NamesOf.{names_of-push}
use Rattle.hb_build.specs.Passes.{HasNames, IsBegun}
use Rattle.hb_build.specs.declared.source.Pages as pages

module _ {P : Type 0} (p : pages.Ghosts P) where
  HasNames-push : (s t u : P) (names : List Name) (name : Name) → HasNames p s names t → p.advances t (Some true) u → p.names u (Some name)
      → HasNames p s (names ++ name ∷ []) u
  HasNames-push s t u [] name e a n = (u, subst (λ x. p.advances x (Some true) u) (sym e) a, n, refl)
  HasNames-push s t u (m ∷ names) name h a n = (h.0, h.1, h.2, HasNames-push h.0 t u names name h.3 a n)

  -- one more name, of the item to which the pages advance
  pub IsBegun-push : (old t u : P) (xs : List (String Global)) (x : String Global) → IsBegun p old (names_of xs) t → p.advances t (Some true) u
      → p.names u (Some (string_bytes x)) → IsBegun p old (names_of (xs ++ x ∷ [])) u
  IsBegun-push old t u xs x b a n = record {
    first = b.first;
    rewound = b.rewound;
    given = subst (λ names. HasNames p b.first names u) (sym (names_of-push xs x)) (HasNames-push b.first t u (names_of xs) (string_bytes x) b.given a n);
  }
