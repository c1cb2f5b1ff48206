-- What is remembered after a registration is taken back.
use Rattle.std.proofs.Common.{◌≡◌, Bool, true, false, cond, Option, None, Some, refl, sym, ap, ◌∙◌, subst, String, Global}
use Rattle.std.specs.BTreeMap.{BTreeMap}
use Rattle.std.specs.Prelude.{is_some}
use Rattle.std.specs.Str.{bytes_eq}
use Rattle.std.proofs.lemmas.Slice.Eq.{bytes_eq-Decides}
use Rattle.handlebars_base.specs.Bytes.{Text}
use Rattle.handlebars.specs.Files.{source_path, path_put}

back-at : (b : Bool) (name n path : Text) (f : Text → Option Text) (before mid : Option Text) → (b ≡ true → name ≡ n)
    → before ≡ f name → mid ≡ cond b (Some path) (f n) → cond b before mid ≡ f n
back-at true name n path f before mid same was put = was ∙ ap f (same refl)
back-at false name n path f before mid same was put = put

pub path_put-back : (d : Bool) (name n path : Text) (f mid : Text → Option Text) (before : Option Text)
    → before ≡ f name → ((m : Text) → mid m ≡ path_put d name (Some path) f m) → path_put d name before mid n ≡ f n
path_put-back true name n path f mid before was put =
    back-at (bytes_eq name n) name n path f before (mid n) ((bytes_eq-Decides name n).0) was (put n)
path_put-back false name n path f mid before was put = put n

bytes_eq-itself : (name : Text) → bytes_eq name name ≡ true
bytes_eq-itself name = (bytes_eq-Decides name name).1 refl

pub path_put-there : (paths : Option (BTreeMap (String Global) (String Global))) (name path : Text)
    → is_some (path_put (is_some paths) name (Some path) (source_path paths) name) ≡ is_some paths
path_put-there None name path = refl
path_put-there (Some m) name path = ap (λ b. is_some (cond b (Some path) (source_path (Some m) name))) (bytes_eq-itself name)

-- if a name is given back what was remembered under it before, all is as before
pub taken-back : (old rem mid last : Option (BTreeMap (String Global) (String Global))) (name path n : Text) (before : Option Text)
    → mid ≡ rem → is_some rem ≡ is_some old → before ≡ source_path old name
    → ((m : Text) → source_path rem m ≡ path_put (is_some old) name (Some path) (source_path old) m)
    → (is_some (source_path mid name) ≡ is_some mid
    → (m : Text) → source_path last m ≡ path_put (is_some mid) name before (source_path mid) m)
    → source_path last n ≡ source_path old n
taken-back old rem mid last name path n before same on was put back =
    let back' = subst (λ z. is_some (source_path z name) ≡ is_some z
    → (m : Text) → source_path last m ≡ path_put (is_some z) name before (source_path z) m) same back in
    let there = ap is_some (put name) ∙ path_put-there old name path ∙ sym on in
    back' there n ∙ ap (λ d. path_put d name before (source_path rem) n) on
    ∙ path_put-back (is_some old) name n path (source_path old) (source_path rem) before was put
