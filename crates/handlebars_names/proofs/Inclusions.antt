-- Tags of inclusions whose names are known: what they include, and for what they fail.
use Rattle.std.proofs.Common.{◌≡◌, Bool, true, false, ◌||◌, if◌then◌else◌, List, [], ◌++◌, refl, ap, ◌∙◌, subst, Option, None, Some}
use Rattle.std.specs.Str.{bytes_eq}
use Rattle.handlebars_base.specs.Bytes.{Text}
use Rattle.handlebars_base.specs.Optional.{with_or}
use Rattle.handlebars_template.specs.Position.{Position}
use Rattle.handlebars_template.specs.Tree.{Tree, Decorator, decorator, decorator_name, decorator_args, decorator_body, Body, no_body, body}
use Rattle.handlebars_scope.specs.Scopes.{Frame}
use Rattle.handlebars_semantics.specs.Inclusion.{Partial, is_local, is_registered, is_own_block, is_nowhere, is_current, partial_for, local_or_other}
use Rattle.handlebars_semantics.specs.Including.{partial_block_name}
use Rattle.handlebars_semantics.specs.State.{Setting, State, CapturedBlocks, partial_in}
use Rattle.handlebars_html.specs.Ascii.{is_one_of}
use Rattle.handlebars_html.specs.Rule.{written_name}
use Rattle.handlebars_names.specs.Check.{Included, made, itself, the_block, a_partial, included_by_name, included_by, included_scope, included_findings, unless_body, is_there, whys_of_included, block_scope, body_findings, inclusion_findings, AreFine}
use Rattle.handlebars_names.specs.Faults.{missing_partial, missing_block, faults_at}
use Rattle.handlebars_names.specs.Names.{Names, AreNames}
use Rattle.handlebars_names.specs.Scopes.{Scope, without_block, covers, Entry, scope_at}
use Rattle.handlebars_names.specs.Whys.{whys_of_args}
use Rattle.handlebars_names.proofs.Arguments.{both-empty, never-one}
use Rattle.handlebars_names.proofs.Fine.{fine-parts, fine-none}
use Rattle.handlebars_names.proofs.States.{IsSome, HoldsIn, holds-without_block, one_of-all, none-some}

-- Nothing is wrong with what a tag includes, in a tree of this name and in a scope.
pub record KnownTag (names : Names) (table : List Entry) (at : Option Text) (n : Option Text) (p : Option Position) (d : Decorator)
    (h : Scope) : Type 0 where
  pub called : Text
  pub written : written_name (decorator_name d) ≡ Some called
  pub arguments : whys_of_args names (decorator_args d) ≡ []
  pub whys : whys_of_included names.has_template h (included_by_name n called) (decorator_body d) ≡ []
  pub included : AreFine table (included_findings (included_by_name n called) (decorator_body d) (block_scope names.has_template h (included_by_name n called)))
  pub block : AreFine table (body_findings names table at p (decorator_body d) (block_scope names.has_template h (included_by_name n called)))

pub tag-known : (names : Names) (table : List Entry) (at n : Option Text) (p : Option Position) (d : Decorator) (h : Scope)
    → AreFine table (inclusion_findings names table at n p d h) → KnownTag names table at n p d h
tag-known names table at n p (decorator q xs b marks) h fine =
    let parts = fine-parts table (faults_at at p (whys_of_args names xs ++ whys_of_included names.has_template h (included_by n (written_name q)) b)) _ fine in
    let whys = both-empty (whys_of_args names xs) _ (fine-none table at p _ parts.0) in
    let rest = fine-parts table (included_findings (included_by n (written_name q)) b (block_scope names.has_template h (included_by n (written_name q)))) _ parts.1 in
    by whys.0 (written_name q) refl whys.1 rest.0 rest.1
  where
    by : whys_of_args names xs ≡ [] → (o : Option Text) → written_name q ≡ o
        → whys_of_included names.has_template h (included_by n o) b ≡ []
        → AreFine table (included_findings (included_by n o) b (block_scope names.has_template h (included_by n o)))
        → AreFine table (body_findings names table at p b (block_scope names.has_template h (included_by n o)))
        → KnownTag names table at n p (decorator q xs b marks) h
    by arguments None same whys included block = never-one whys
    by arguments (Some m) same whys included block = record {
      called = m;
      written = same;
      arguments = arguments;
      whys = whys;
      included = included;
      block = block;
    }

-- ---- what is included

module _ (names : Names) (h : Scope) (n : Option Text) (m : Text) where
  -- A tag with nothing wrong doesn't include the template that it is in.
  pub not-itself : (b : Body) → whys_of_included names.has_template h (included_by_name n m) b ≡ [] → is_current m n ≡ false
  not-itself b is = by (is_current m n) refl is
    where
      by : (c : Bool) → is_current m n ≡ c
          → whys_of_included names.has_template h (if c then itself m else (if bytes_eq partial_block_name m then the_block else a_partial m)) b ≡ []
          → is_current m n ≡ false
      by true same e = never-one e
      by false same e = same

  pub includes-block : is_current m n ≡ false → bytes_eq partial_block_name m ≡ true → included_by_name n m ≡ the_block
  includes-block other is =
      ap (λ (c : Bool). if c then itself m else (if bytes_eq partial_block_name m then the_block else a_partial m)) other
      ∙ ap (λ (c : Bool). if c then the_block else a_partial m) is

  pub includes-partial : is_current m n ≡ false → bytes_eq partial_block_name m ≡ false → included_by_name n m ≡ a_partial m
  includes-partial other is =
      ap (λ (c : Bool). if c then itself m else (if bytes_eq partial_block_name m then the_block else a_partial m)) other
      ∙ ap (λ (c : Bool). if c then the_block else a_partial m) is

-- Where the block begins, no more is known than in front of the tag.
pub holds-block : (names : Names) (h : Scope) (k : Included) (fs : List Frame) (ks : CapturedBlocks) → HoldsIn h fs ks
    → HoldsIn (block_scope names.has_template h k) fs ks
holds-block names h made fs ks holds = holds
holds-block names h (itself m) fs ks holds = holds
holds-block names h the_block fs ks holds = holds
holds-block names h (a_partial m) fs ks holds = by (is_there names.has_template h m)
  where
    by : (b : Bool) → HoldsIn (if b then h else without_block h) fs ks
    by true = holds
    by false = holds-without_block h fs ks ks holds

-- What is included is in the table, which has no more than is known there.
pub record Entered (table : List Entry) (m : Text) (g : Scope) : Type 0 where
  pub scope : Scope
  pub there : scope_at table m ≡ Some scope
  pub covered : covers scope g ≡ true

pub entered : (table : List Entry) (k : Included) (b : Body) (h : Scope) (m : Text) → k ≡ a_partial m
    → AreFine table (included_findings k b h) → Entered table m (included_scope b h)
entered table k b h m is fine =
    let one = (subst (λ (x : Included). AreFine table (included_findings x b h)) is fine).0 in by (scope_at table m) refl one
  where
    by : (o : Option Scope) → scope_at table m ≡ o → with_or o (λ g. covers g (included_scope b h)) false ≡ true
        → Entered table m (included_scope b h)
    by None same e = cc
    by (Some g) same e = record { scope = g; there = same; covered = e }

-- ---- partials that are there for certain

module _ (p : Setting) (names : Names) (are : AreNames p.parts names) (h : Scope) (m : Text) (s : State)
    (holds : HoldsIn h s.blocks s.captured) where
  abbrev IsFound : Partial → Type 0
  IsFound (is_local t) = Unit {0}
  IsFound (is_registered t) = Unit {0}
  IsFound (is_own_block t) = ⊥
  IsFound is_nowhere = ⊥

  found-local : (l o : Option Tree) (b : Body) → IsSome l → IsFound (local_or_other l o b)
  found-local (Some t) o b is = tt
  found-local None o b is = none-some is.1

  found-registered : (l o : Option Tree) (b : Body) → IsSome o → IsFound (local_or_other l o b)
  found-registered (Some t) o b is = tt
  found-registered None (Some t) b is = tt
  found-registered None None b is = none-some is.1

  pub there-found : (b : Body) → is_there names.has_template h m ≡ true → IsFound (partial_for p.parts s m b)
  there-found b is = by (is_one_of h.partials m) refl is
    where
      by : (c : Bool) → is_one_of h.partials m ≡ c → (c || names.has_template m) ≡ true → IsFound (partial_for p.parts s m b)
      by true same e = found-local (partial_in s.blocks m) (p.parts.template m) b
          (one_of-all (λ x. IsSome (partial_in s.blocks x)) h.partials holds.partials m same)
      by false same e = found-registered (partial_in s.blocks m) (p.parts.template m) b (are.templates m e)

  -- So a tag's own block is included only where the partial isn't.
  pub own-not_there : (b : Body) (t : Tree) → partial_for p.parts s m b ≡ is_own_block t → is_there names.has_template h m ≡ false
  own-not_there b t is = by (is_there names.has_template h m) refl
    where
      by : (c : Bool) → is_there names.has_template h m ≡ c → c ≡ false
      by true same = absurd (subst IsFound is (there-found b same))
      by false same = refl

  block-not_nowhere : (l o : Option Tree) (t : Tree) → local_or_other l o (body t) ≡ is_nowhere → ⊥
  block-not_nowhere (Some x) o t is = cc
  block-not_nowhere None (Some x) t is = cc
  block-not_nowhere None None t is = cc

  -- and a tag with nothing wrong includes something
  pub never-nowhere : (b : Body) → whys_of_included names.has_template h (a_partial m) b ≡ [] → partial_for p.parts s m b ≡ is_nowhere → ⊥
  never-nowhere b whys is = by (is_there names.has_template h m) refl whys
    where
      of : (y : Body) → unless_body y (missing_partial m) ≡ [] → local_or_other (partial_in s.blocks m) (p.parts.template m) y ≡ is_nowhere → ⊥
      of no_body e none = never-one e
      of (body t) e none = block-not_nowhere (partial_in s.blocks m) (p.parts.template m) t none

      by : (c : Bool) → is_there names.has_template h m ≡ c → (if c then [] else unless_body b (missing_partial m)) ≡ [] → ⊥
      by true same e = subst IsFound is (there-found b same)
      by false same e = of b e is

-- where there may be no captured block, the tag has one
pub block-there : (names : Names) (h : Scope) (b : Body) → whys_of_included names.has_template h the_block b ≡ [] → h.block ≡ false → b ≡ no_body → ⊥
block-there names h b whys none is =
    by b is (subst (λ (c : Bool). (if c then [] else unless_body b missing_block) ≡ []) none whys)
  where
    by : (y : Body) → y ≡ no_body → unless_body y missing_block ≡ [] → ⊥
    by no_body same e = never-one e
    by (body t) same e = cc
