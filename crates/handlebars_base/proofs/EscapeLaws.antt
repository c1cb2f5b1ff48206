-- The laws of escaping.
use Rattle.std.proofs.Common.{◌≡◌, ◌≢◌, ℕ, zero, suc, ◌<◌, ◌==◌, eqb, cond, if◌then◌else◌, Bool, true, false, [], ◌∷◌, ◌++◌, drop, get_or, refl, sym, ap, ap₂, ◌∙◌, subst, arith, codes, Some}
use Rattle.std.proofs.lemmas.Bool.Decides.{nat_tests}
use Rattle.std.proofs.lemmas.List.Elements.{All-from_recursion}
use Rattle.std.specs.List.{AllByRecursion}
use Rattle.handlebars_base.specs.Escape.{entity_of, escaped_byte, escaped}
use Rattle.handlebars_base.specs.EscapeLaws.{IsInjective, marks, IsUnmarked, BeginsEntity, BeginsEntities}
use Rattle.handlebars_base.proofs.EscapedBytes.{IsOther, by_bytes, escaped_byte-other}
use Rattle.handlebars_base.specs.Bytes.{Text}

-- ---- a decoder: the first byte that an escaped text represents, and what follows

-- the byte of an entity, by the first and the third byte after its `&`
named : ℕ → ℕ → ℕ
named x y =
    if x == 108 then 60 else (if x == 103 then 62 else (if x == 113 then 34 else (if x == 97 then 38 else (
    if y == 50 then 39 else (if y == 54 then 96 else 61)))))

-- how many bytes of the entity follow the `&`
len_of : ℕ → ℕ
len_of x = if x == 108 then 3 else (if x == 103 then 3 else (if x == 97 then 4 else 5))

first_of : Text → ℕ
first_of [] = 0
first_of (b ∷ bs) = if b == 38 then named (get_or bs 0 0) (get_or bs 2 0) else b

rest_of : Text → Text
rest_of [] = []
rest_of (b ∷ bs) = if b == 38 then drop (len_of (get_or bs 0 0)) bs else bs

no_ampersand : (b : ℕ) → IsOther b → (b == 38) ≡ false
no_ampersand b o = let h = o.ampersand in grind (arith, nat_tests)

first_of-escaped : (rest : Text) (b : ℕ) → first_of (escaped_byte b ++ rest) ≡ b
unfolding first_of named
first_of-escaped rest = by_bytes (λ b. first_of (escaped_byte b ++ rest) ≡ b) refl refl refl refl refl refl refl
    (λ b o. ap (λ t. first_of (t ++ rest)) (escaped_byte-other b o)
    ∙ ap (λ x. cond x (named (get_or rest 0 0) (get_or rest 2 0)) b) (no_ampersand b o))

rest_of-escaped : (rest : Text) (b : ℕ) → rest_of (escaped_byte b ++ rest) ≡ rest
unfolding rest_of len_of
rest_of-escaped rest = by_bytes (λ b. rest_of (escaped_byte b ++ rest) ≡ rest) refl refl refl refl refl refl refl
    (λ b o. ap (λ t. rest_of (t ++ rest)) (escaped_byte-other b o)
    ∙ ap (λ x. cond x (drop (len_of (get_or rest 0 0)) rest) rest) (no_ampersand b o))

not_empty : (b : ℕ) (rest : Text) → escaped_byte b ++ rest ≢ []
not_empty b rest = by_bytes (λ b. escaped_byte b ++ rest ≢ []) (λ e. cc) (λ e. cc) (λ e. cc) (λ e. cc) (λ e. cc) (λ e. cc) (λ e. cc)
    (λ b o e. let f = sym (ap (λ t. t ++ rest) (escaped_byte-other b o)) ∙ e in cc) b

pub escaped_is_injective : IsInjective
unfolding escaped
escaped_is_injective [] [] e = refl
escaped_is_injective [] (y ∷ ys) e = absurd (not_empty y (escaped ys) (sym e))
escaped_is_injective (x ∷ xs) [] e = absurd (not_empty x (escaped xs) e)
escaped_is_injective (x ∷ xs) (y ∷ ys) e =
    let heads : x ≡ y = sym (first_of-escaped (escaped xs) x) ∙ ap first_of e ∙ first_of-escaped (escaped ys) y in
    let rests : escaped xs ≡ escaped ys = sym (rest_of-escaped (escaped xs) x) ∙ ap rest_of e ∙ rest_of-escaped (escaped ys) y in
    ap₂ (λ b bs. b ∷ bs) heads (escaped_is_injective xs ys rests)

-- ---- marks

record IsNoMark (b : ℕ) : Type 0 where
  less : b ≢ 60
  greater : b ≢ 62
  quote : b ≢ 34
  apostrophe : b ≢ 39
  back : b ≢ 96
  equals : b ≢ 61

no_mark : (b : ℕ) → b ≢ 60 → b ≢ 62 → b ≢ 34 → b ≢ 39 → b ≢ 96 → b ≢ 61 → IsNoMark b
no_mark b h1 h2 h3 h4 h5 h6 = record { less = h1; greater = h2; quote = h3; apostrophe = h4; back = h5; equals = h6 }

abbrev is_plain : ℕ → Bool
is_plain b = cond (eqb b 60) false (cond (eqb b 62) false (cond (eqb b 34) false (cond (eqb b 39) false (cond (eqb b 96) false
    (cond (eqb b 61) false true)))))

plain : (b : ℕ) → is_plain b ≡ true → IsNoMark b
plain b h = no_mark b (λ e. grind (arith, nat_tests)) (λ e. grind (arith, nat_tests)) (λ e. grind (arith, nat_tests))
    (λ e. grind (arith, nat_tests)) (λ e. grind (arith, nat_tests)) (λ e. grind (arith, nat_tests))

all_append : (xs ys : Text) → AllByRecursion IsNoMark xs → AllByRecursion IsNoMark ys → AllByRecursion IsNoMark (xs ++ ys)
all_append [] ys h k = k
all_append (x ∷ xs) ys h k = (h.0, all_append xs ys h.1 k)

byte_unmarked : (b : ℕ) → AllByRecursion IsNoMark (escaped_byte b)
byte_unmarked = by_bytes (λ b. AllByRecursion IsNoMark (escaped_byte b))
    (plain _ refl, (plain _ refl, (plain _ refl, (plain _ refl, tt))))
    (plain _ refl, (plain _ refl, (plain _ refl, (plain _ refl, tt))))
    (plain _ refl, (plain _ refl, (plain _ refl, (plain _ refl, (plain _ refl, (plain _ refl, tt))))))
    (plain _ refl, (plain _ refl, (plain _ refl, (plain _ refl, (plain _ refl, tt)))))
    (plain _ refl, (plain _ refl, (plain _ refl, (plain _ refl, (plain _ refl, (plain _ refl, tt))))))
    (plain _ refl, (plain _ refl, (plain _ refl, (plain _ refl, (plain _ refl, (plain _ refl, tt))))))
    (plain _ refl, (plain _ refl, (plain _ refl, (plain _ refl, (plain _ refl, (plain _ refl, tt))))))
    (λ b o. subst (AllByRecursion IsNoMark) (sym (escaped_byte-other b o))
    (no_mark b o.less o.greater o.quote o.apostrophe o.back o.equals, tt))

all_unmarked : (xs : Text) → AllByRecursion IsNoMark (escaped xs)
unfolding escaped
all_unmarked [] = tt
all_unmarked (b ∷ bs) = all_append (escaped_byte b) (escaped bs) (byte_unmarked b) (all_unmarked bs)

is_mark : (mark k : ℕ) → IsNoMark mark → k < 6 → get_or marks k mark ≡ mark → ⊥
is_mark mark zero other l e = other.less (sym e)
is_mark mark (suc zero) other l e = other.greater (sym e)
is_mark mark (suc (suc zero)) other l e = other.quote (sym e)
is_mark mark (suc (suc (suc zero))) other l e = other.apostrophe (sym e)
is_mark mark (suc (suc (suc (suc zero)))) other l e = other.back (sym e)
is_mark mark (suc (suc (suc (suc (suc zero))))) other l e = other.equals (sym e)
is_mark mark (suc (suc (suc (suc (suc (suc k)))))) other l e = absurd (omega arith)

pub escaped_is_unmarked : IsUnmarked
escaped_is_unmarked xs mark is there =
    let other = All-from_recursion IsNoMark (escaped xs) (all_unmarked xs) there.0 mark there.1 in
    is_mark mark is.0 (subst IsNoMark there.2 other) is.1 is.2

-- ---- each `&`

abbrev NoAmpersand : Text → Type 0
NoAmpersand = AllByRecursion (λ b. b ≢ 38)

-- an `&` after bytes that are none is in what follows them
skip : (P : Type 0) (e more prefix rest : Text) → NoAmpersand e → e ++ more ≡ prefix ++ 38 ∷ rest
    → ((prefix' : Text) → more ≡ prefix' ++ 38 ∷ rest → P) → P
skip P [] more prefix rest none e go = go prefix e
skip P (b ∷ bs) more [] rest none e go = absurd (none.0 cc)
skip P (b ∷ bs) more (f ∷ prefix) rest none e go = skip P bs more prefix rest none.1 (cc) go

-- an `&` in an entity and what follows is the entity's first byte, or is in what follows
in_entity : (b : ℕ) (t more prefix rest : Text) → entity_of b ≡ Some (38 ∷ t) → NoAmpersand t
    → (38 ∷ t) ++ more ≡ prefix ++ 38 ∷ rest → ((prefix' : Text) → more ≡ prefix' ++ 38 ∷ rest → BeginsEntity (38 ∷ rest))
    → BeginsEntity (38 ∷ rest)
in_entity b t more [] rest is none e go = record { byte = b; entity = 38 ∷ t; rest = more; is_entity = is; is = sym e }
in_entity b t more (f ∷ prefix) rest is none e go = skip (BeginsEntity (38 ∷ rest)) t more prefix rest none (cc) go

byte : (b : ℕ) → eqb b 38 ≡ false → b ≢ 38
byte b h = grind (arith, nat_tests)

abbrev AtByte : ℕ → Type 0
AtByte b = (more prefix rest : Text) → escaped_byte b ++ more ≡ prefix ++ 38 ∷ rest
    → ((prefix' : Text) → more ≡ prefix' ++ 38 ∷ rest → BeginsEntity (38 ∷ rest))
    → BeginsEntity (38 ∷ rest)

at_byte : (b : ℕ) → AtByte b
at_byte = by_bytes AtByte
    (λ more prefix rest. in_entity 60 (codes "lt;") more prefix rest refl (byte _ refl, (byte _ refl, (byte _ refl, tt))))
    (λ more prefix rest. in_entity 62 (codes "gt;") more prefix rest refl (byte _ refl, (byte _ refl, (byte _ refl, tt))))
    (λ more prefix rest. in_entity 34 (codes "quot;") more prefix rest refl (byte _ refl, (byte _ refl, (byte _ refl, (byte _ refl, (byte _ refl, tt))))))
    (λ more prefix rest. in_entity 38 (codes "amp;") more prefix rest refl (byte _ refl, (byte _ refl, (byte _ refl, (byte _ refl, tt)))))
    (λ more prefix rest. in_entity 39 (codes "#x27;") more prefix rest refl (byte _ refl, (byte _ refl, (byte _ refl, (byte _ refl, (byte _ refl, tt))))))
    (λ more prefix rest. in_entity 96 (codes "#x60;") more prefix rest refl (byte _ refl, (byte _ refl, (byte _ refl, (byte _ refl, (byte _ refl, tt))))))
    (λ more prefix rest. in_entity 61 (codes "#x3D;") more prefix rest refl (byte _ refl, (byte _ refl, (byte _ refl, (byte _ refl, (byte _ refl, tt))))))
    (λ b o more prefix rest e go. skip (BeginsEntity (38 ∷ rest)) (b ∷ []) more prefix rest (o.ampersand, tt)
    (sym (ap (λ t. t ++ more) (escaped_byte-other b o)) ∙ e) go)

pub escaped_begins_entities : BeginsEntities
unfolding escaped
escaped_begins_entities [] [] rest e = absurd cc
escaped_begins_entities [] (f ∷ prefix) rest e = absurd cc
escaped_begins_entities (b ∷ bs) prefix rest e = at_byte b (escaped bs) prefix rest e (λ prefix' h. escaped_begins_entities bs prefix' rest h)
