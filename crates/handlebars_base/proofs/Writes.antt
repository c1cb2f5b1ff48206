-- Several writes, one after another.
use Rattle.std.proofs.Common.{◌≡◌, [], ◌++◌, refl, sym, ap, ◌∙◌, subst, append_assoc, append-nil, Ok, Err, Result, ◌<◌, length, length-append, arith}
use Rattle.std.proofs.lemmas.Bool.{false≢true}
use Rattle.std.specs.Result.{IsErr}
use Rattle.std.specs.declared.io.Error.{Error}
use Rattle.handlebars_base.specs.Bytes.{Text}
use Rattle.handlebars_base.specs.Outputs.{Held, IsWhole, IsWrittenInPart, Written}

pub whole-nil : (x : Held) → IsWhole [] x x
whole-nil x = record { text = sym (append-nil x.text); write_errors = refl }

pub whole-append : {t s : Text} {x y z : Held} → IsWhole t x y → IsWhole s y z → IsWhole (t ++ s) x z
whole-append {t} {s} {x} h k = record {
  text = k.text ∙ ap (λ a. a ++ s) h.text ∙ append_assoc x.text t s;
  write_errors = k.write_errors ∙ h.write_errors;
}

-- all of a text is written, except what is left
pub record AllBut (left all : Text) (x y : Held) : Type 0 where
  pub prefix : Text
  pub split : all ≡ prefix ++ left
  pub whole : IsWhole prefix x y

pub begins : (all : Text) (x : Held) → AllBut all all x x
begins all x = record { prefix = []; split = refl; whole = whole-nil x }

-- what is left, replaced by an equal text
pub left_is : {left other all : Text} {x y : Held} → left ≡ other → AllBut left all x y → AllBut other all x y
left_is e h = record { prefix = h.prefix; split = h.split ∙ ap (λ a. h.prefix ++ a) e; whole = h.whole }

-- one more write
pub next_write : {t left all : Text} {x y z : Held} → AllBut (t ++ left) all x y → IsWhole t y z → AllBut left all x z
next_write {t} {left} h k = record {
  prefix = h.prefix ++ t;
  split = h.split ∙ sym (append_assoc h.prefix t left);
  whole = whole-append h.whole k;
}

failed : {t : Text} {x y : Held} (r : Result (Unit {0}) Error) → IsErr r → IsWrittenInPart t x y → Written t x r y
failed (Ok u) bad h = absurd (false≢true bad)
failed (Err e) bad h = h

some-append : (prefix t left all : Text) → all ≡ prefix ++ (t ++ left) → 0 < length t → 0 < length all
some-append prefix t left all is some =
    omega (arith, some, length-append prefix (t ++ left), length-append t left, ap length is)

truncated-append : {t all : Text} {x y z : Held} (left : Text) → AllBut (t ++ left) all x y → IsWrittenInPart t y z → IsWrittenInPart all x z
truncated-append {t} {all} {x = x} left h k = record {
  some = some-append h.prefix t left all h.split k.some;
  prefix = h.prefix ++ k.prefix;
  is_prefix = (
    k.is_prefix.0 ++ left,
    h.split ∙ ap (λ a. h.prefix ++ (a ++ left)) k.is_prefix.1
        ∙ ap (λ a. h.prefix ++ a) (append_assoc k.prefix k.is_prefix.0 left)
        ∙ sym (append_assoc h.prefix k.prefix (k.is_prefix.0 ++ left)),
  );
  text = k.text ∙ ap (λ a. a ++ k.prefix) h.whole.text ∙ append_assoc x.text h.prefix k.prefix;
  write_errors = rw h.whole.write_errors at k.write_errors;
}

-- a write that fails
pub failed_write : {t all : Text} {x y z : Held} (r : Result (Unit {0}) Error) (left : Text) → IsErr r
    → AllBut (t ++ left) all x y → IsWrittenInPart t y z → Written all x r z
failed_write r left bad h k = failed r bad (truncated-append left h k)

-- the last write
pub last_write : {t all : Text} {x y : Held} (z : Held) (r : Result (Unit {0}) Error) → AllBut t all x y → Written t y r z
    → Written all x r z
last_write {t} {all} {x} z (Ok u) h k = rw (h.split) (whole-append h.whole k)
last_write {t} z (Err e) h k = truncated-append [] (left_is (sym (append-nil t)) h) k

-- nothing is left
pub ends_here : {all : Text} {x y : Held} → AllBut [] all x y → IsWhole all x y
ends_here h = rw (h.split, append-nil h.prefix) h.whole

-- a text, replaced by an equal one
pub written_is : {t s : Text} (x y : Held) (r : Result (Unit {0}) Error) → t ≡ s → Written t x r y → Written s x r y
written_is x y r e h = subst (λ t. Written t x r y) e h

-- a gathered text is extended by the text after it
pub gathers : {all : Text} {x y : Held} (gathered t left : Text) → AllBut (gathered ++ (t ++ left)) all x y
    → AllBut ((gathered ++ t) ++ left) all x y
gathers gathered t left h = left_is (sym (append_assoc gathered t left)) h
