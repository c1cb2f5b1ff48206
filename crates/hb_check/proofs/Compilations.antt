-- Files are compiled one after another.
use Rattle.std.proofs.Common.{◌≡◌, ◌++◌, ◌∷◌, [], Bool, true, false, cond, List, Option, None, Some, option_map, ap, refl, sym, subst, ◌∙◌}
use Rattle.std.specs.Str.{bytes_eq}
use Rattle.handlebars_base.specs.Bytes.{Text}
use Rattle.handlebars_base.specs.Reasons.{TemplateRefusal}
use Rattle.handlebars_template.specs.Compile.{Compiles, rejected}
use Rattle.handlebars_template.specs.Tree.{Tree, empty_tree}
use Rattle.handlebars_report.specs.Problem.{Problem}
use Rattle.handlebars_report.specs.declared.problem.Problem as problem
use Rattle.hb_check.specs.Compiled.{CompilesAs, IsErrorIn, ReportsFiles, a_file, ill, no_file, options_for, registered_with}
use Rattle.hb_check.specs.Sources.{Registered, registered_of, source_under}
use Rattle.hb_check.specs.Reported.{AddsSome, One}
use Rattle.hb_check.specs.declared.question.File.{File}
use Rattle.hb_check.specs.declared.sources.Source.{Source}
use Rattle.hb_check.specs.declared.sources.Sources.{Sources}
use Rattle.hb_check.proofs.Reports.{adds-both}

option_map-cond : {X Y : Type 0} (f : X → Y) (b : Bool) (x : X) (o : Option X)
    → option_map f (cond b (Some x) o) ≡ cond b (Some (f x)) (option_map f o)
option_map-cond f true x o = refl
option_map-cond f false x o = refl

pub sources-none : (ss : Sources) → ((n : Text) → source_under ss n ≡ None) → ReportsFiles [] ss []
sources-none ss none = ((λ n. None), no_file, λ n. ap (option_map registered_of) (none n))

pub files-next : (fs all : List File) (f : File) (t : Tree) (s : Source) (ss ts : Sources) (a b c : List problem.Problem)
    → all ≡ fs ++ f ∷ [] → registered_of s ≡ record { path = f.path.now; text = f.text.now; tree = t }
    → ((n : Text) → source_under ts n ≡ cond (bytes_eq f.name.now n) (Some s) (source_under ss n))
    → AddsSome (ReportsFiles fs ss) a b → AddsSome (CompilesAs f t) b c → AddsSome (ReportsFiles all ts) a c
files-next fs all f t s ss ts a b c is made inserted first one =
    subst (λ (xs : List File). AddsSome (ReportsFiles xs ts) a c) (sym is)
    (adds-both (ReportsFiles fs ss) (CompilesAs f t) (ReportsFiles (fs ++ f ∷ []) ts) a b c both first one)
  where
    both : (ps qs : List Problem) → ReportsFiles fs ss ps → CompilesAs f t qs → ReportsFiles (fs ++ f ∷ []) ts (ps ++ qs)
    both ps qs (registered, compiled, are) compiles = (
      registered_with registered f t,
      a_file compiled compiles,
      λ n. ap (option_map registered_of) (inserted n)
          ∙ option_map-cond registered_of (bytes_eq f.name.now n) s (source_under ss n)
          ∙ ap (λ (x : Registered). cond (bytes_eq f.name.now n) (Some x) (option_map registered_of (source_under ss n))) made
          ∙ ap (λ (o : Option Registered). cond (bytes_eq f.name.now n) (Some (record { path = f.path.now; text = f.text.now; tree = t })) o) (are n),
    )

-- A file whose text is rejected, for another reason than memory, has one problem, and counts as empty.
pub compiles-ill : (f : File) (r : TemplateRefusal) (ps : List Problem) → Compiles f.text.now (options_for f.name.now) (rejected r)
    → One (IsErrorIn f) ps → CompilesAs f empty_tree ps
compiles-ill f r [] rejects one = elim one [ ]
compiles-ill f r (p ∷ []) rejects one = ill rejects one
compiles-ill f r (p ∷ (q ∷ ps)) rejects one = elim one [ ]
