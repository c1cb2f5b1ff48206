-- What a registry has after registrations of files.
use Rattle.std.proofs.Common.{◌≡◌, Bool, true, false, List, [], ◌∷◌, ◌++◌, cond, Option, None, Some, refl, sym, ap, ◌∙◌, String, Global}
use Rattle.std.specs.BTreeMap.{BTreeMap}
use Rattle.std.specs.Option.{option_or}
use Rattle.std.specs.Prelude.{is_some}
use Rattle.std.specs.Str.{bytes_eq}
use Rattle.handlebars_base.specs.Bytes.{Text}
use Rattle.handlebars.specs.Files.{HasLoaded, Loaded, overlaid_on, last_under, source_path, path_put, path_among, remembered_path, is_dev}
use Rattle.handlebars.specs.View.{stored_tree}
use Rattle.handlebars.specs.declared.registry.RegistryOf.{RegistryOf}

pub cond-same : {X : Type 0} (b : Bool) (x : X) → cond b x x ≡ x
cond-same true x = refl
cond-same false x = refl

-- what is put under a name is overlaid on what was there
pub put-overlaid : {X : Type 0} (b : Bool) (x : X) (o : Option X) → cond b (Some x) o ≡ option_or (cond b (Some x) None) o
put-overlaid true x o = refl
put-overlaid false x o = refl

pub path_put-overlaid : (d : Bool) (l : Loaded) (old : Text → Option Text) (other : Text)
    → path_put d l.name (Some l.path) old other ≡ cond d (overlaid_on (path_among (l ∷ [])) old other) (old other)
path_put-overlaid true l old other = put-overlaid (bytes_eq l.name other) l.path (old other)
path_put-overlaid false l old other = refl

-- nothing is removed where nothing is remembered
pub path_put-none : (paths : Option (BTreeMap (String Global) (String Global))) (b : Bool) (other : Text)
    → cond (is_some paths) (cond b None (source_path paths other)) (source_path paths other) ≡ cond b None (source_path paths other)
path_put-none None b other = sym (cond-same b None)
path_put-none (Some m) b other = refl

option_or-assoc : {X : Type 0} (a b c : Option X) → option_or (option_or a b) c ≡ option_or a (option_or b c)
option_or-assoc None b c = refl
option_or-assoc (Some x) b c = refl

option_or-none : {X : Type 0} (o : Option X) → option_or o None ≡ o
option_or-none None = refl
option_or-none (Some x) = refl

pub last_under-append : {X : Type 0} (of : Loaded → X) (ls ms : List Loaded) (name : Text)
    → last_under of (ls ++ ms) name ≡ option_or (last_under of ms name) (last_under of ls name)
last_under-append of [] ms name = sym (option_or-none (last_under of ms name))
last_under-append of (l ∷ ls) ms name =
    ap (λ o. option_or o (cond (bytes_eq l.name name) (Some (of l)) None)) (last_under-append of ls ms name)
    ∙ option_or-assoc (last_under of ms name) (last_under of ls name) (cond (bytes_eq l.name name) (Some (of l)) None)

overlaid-twice : {X : Type 0} (of : Loaded → X) (ls ms : List Loaded) (old : Text → Option X) (mid new : Option X) (name : Text)
    → mid ≡ option_or (last_under of ls name) (old name) → new ≡ option_or (last_under of ms name) mid
    → new ≡ option_or (last_under of (ls ++ ms) name) (old name)
overlaid-twice of ls ms old mid new name first second =
    second ∙ ap (option_or (last_under of ms name)) first
    ∙ sym (option_or-assoc (last_under of ms name) (last_under of ls name) (old name))
    ∙ ap (λ o. option_or o (old name)) (sym (last_under-append of ls ms name))

overlaid-twice-if : (d e : Bool) (ls ms : List Loaded) (old : Text → Option Text) (mid new : Option Text) (name : Text) → e ≡ d
    → mid ≡ cond d (overlaid_on (path_among ls) old name) (old name) → new ≡ cond e (option_or (path_among ms name) mid) mid
    → new ≡ cond d (overlaid_on (path_among (ls ++ ms)) old name) (old name)
overlaid-twice-if true e ls ms old mid new name same first second =
    overlaid-twice (λ l. l.path) ls ms old mid new name first (second ∙ ap (λ b. cond b (option_or (path_among ms name) mid) mid) same)
overlaid-twice-if false e ls ms old mid new name same first second =
    second ∙ ap (λ b. cond b (option_or (path_among ms name) mid) mid) same ∙ first

module _ {E : Type 0} where
  pub loaded-none : (r : RegistryOf E) → HasLoaded [] r r
  loaded-none r = record {
    trees = λ n. refl;
    files = λ n. sym (cond-same (is_dev r) (remembered_path r n));
    entries = refl;
    modes = refl;
    dev = refl;
  }

  pub loaded-then : {ls ms : List Loaded} (old mid new : RegistryOf E) → HasLoaded ls old mid → HasLoaded ms mid new
      → HasLoaded (ls ++ ms) old new
  loaded-then {ls = ls} {ms = ms} old mid new a b = record {
    trees = λ n. overlaid-twice (λ l. l.tree) ls ms (stored_tree old) (stored_tree mid n) (stored_tree new n) n (a.trees n) (b.trees n);
    files = λ n. overlaid-twice-if (is_dev old) (is_dev mid) ls ms (remembered_path old) (remembered_path mid n) (remembered_path new n) n a.dev
        (a.files n) (b.files n);
    entries = b.entries ∙ a.entries;
    modes = b.modes ∙ a.modes;
    dev = b.dev ∙ a.dev;
  }
