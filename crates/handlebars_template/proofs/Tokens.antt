-- Two readings of a source agree, as far as both go.
use Rattle.std.proofs.Common.{◌≡◌, ℕ, zero, suc, ◌<◌, None, List, [], ◌∷◌, ◌++◌, length, drop, refl, sym, ap, ◌∙◌, subst, append_assoc, arith, ◌⊎◌, inl, inr}
use Rattle.std.specs.Prelude.{◌==◌, nat_lt}
use Rattle.std.proofs.lemmas.List.{append-nil, drop_at}
use Rattle.std.proofs.lemmas.Bool.{cases_Bool, eqb-true, eqb-false}
use Rattle.std.proofs.lemmas.Option.{none-some}
use borrow.Author.Tests.{ltb-true, ltb-false}
use Rattle.handlebars_base.specs.Bytes.{Text}
use Rattle.handlebars_base.specs.Texts.{after_byte}
use Rattle.handlebars_lexer.specs.Text.{IsText}
use Rattle.handlebars_lexer.specs.Kind.{beginning_of}
use Rattle.handlebars_lexer.specs.Trim.{WhitespaceControl, no_control, braces_after}
use Rattle.handlebars_lexer.proofs.OneText.{one_text}
use Rattle.handlebars_lexer.proofs.OneTag.{one_tag}
use Rattle.handlebars_lexer.specs.Options.{Options}
use Rattle.handlebars_template.specs.Position.{position}
use Rattle.handlebars_template.specs.Tokens.{Token, text_token, tag_token, may_follow, TextAndTag, tokens_of, Reads, nothing_read, goes_on, AreTokens, spelled_tokens, TokensJoin, OneTokenization}
use Rattle.handlebars_template.specs.Compile.{NoTagAfter}

append-left_cancel : (b x y : Text) → b ++ x ≡ b ++ y → x ≡ y
append-left_cancel b x y e = sym (drop_at b x (length b) refl) ∙ ap (drop (length b)) e ∙ drop_at b y (length b) refl

append-after : (s b c x y : Text) → b ≡ c → s ≡ b ++ x → s ≡ c ++ y → x ≡ y
append-after s b c x y e h k = append-left_cancel c x y (ap (λ (z : Text). z ++ x) (sym e) ∙ sym h ∙ k)

-- ---- a text after a whitespace control

-- two texts after the same whitespace control, in the same rest of a source, are one
pub record SameText (x y k l a b : Text) : Type 0 where
  pub tokens : x ≡ y
  pub unescaped : k ≡ l
  pub follows : a ≡ b

same_text : (e f : WhitespaceControl) (x y k l a b : Text) → e ≡ f → x ++ a ≡ y ++ b → IsText (braces_after e) a x k → IsText (braces_after f) b y l → SameText x y k l a b
same_text e f x y k l a b ef is h g =
    let one = one_text (braces_after e) (x ++ a) x y a b k l refl is h (subst (λ (z : WhitespaceControl). IsText (braces_after z) b y l) (sym ef) g) in
    record { tokens = one.0; unescaped = one.2; follows = one.1 }

-- ---- two prefixes

-- how many texts with a tag were read
pub count : {s : Text} {o : Options} {b : Text} {e : WhitespaceControl} {ps : List Token} → Reads s o b e ps → ℕ
count nothing_read = zero
count (goes_on r x) = suc (count r)

pub record OneBeginning (b c : Text) (e f : WhitespaceControl) (ps qs : List Token) : Type 0 where
  pub here : b ≡ c
  pub control : e ≡ f
  pub tokens : ps ≡ qs

suc-cancel : (n m : ℕ) → suc n ≡ suc m → n ≡ m
suc-cancel n m e = omega arith

pub one_beginning : {s : Text} {o : Options} {b c : Text} {e f : WhitespaceControl} {ps qs : List Token} → (r : Reads s o b e ps) (q : Reads s o c f qs) → count r ≡ count q → OneBeginning b c e f ps qs
unfolding count
one_beginning nothing_read nothing_read n = record { here = refl; control = refl; tokens = refl }
one_beginning nothing_read (goes_on q y) n = absurd (omega arith)
one_beginning (goes_on r x) nothing_read n = absurd (omega arith)
one_beginning {s} {o} (goes_on {before = b} {control = e} {ps = ps} r x) (goes_on {before = c} {control = f} {ps = qs} q y) n =
    let a = one_beginning r q (suc-cancel (count r) (count q) n) in
    let left : x.text ++ (x.token ++ x.rest) ≡ y.text ++ (y.token ++ y.rest) = append-after s b c (x.text ++ (x.token ++ x.rest)) (y.text ++ (y.token ++ y.rest)) a.here x.whole y.whole in
    let texts = same_text e f x.text y.text x.unescaped y.unescaped (x.token ++ x.rest) (y.token ++ y.rest) a.control left x.is_text y.is_text in
    let one = one_tag o.sections (x.token ++ x.rest) x.token y.token x.rest y.rest x.tag y.tag x.tildes y.tildes refl texts.follows x.is_tag y.is_tag in
    let bc = a.here in let ef = a.control in let pq = a.tokens in let xy = texts.tokens in let kl = texts.unescaped in
    let token = one.0 in let rest = one.1 in let tag = one.2 in let tildes = one.3 in
    record { here = cc; control = cc; tokens = cc }

-- a shorter prefix, of length n, of a longer one
pub record ReadPrefix (s : Text) (o : Options) (n : ℕ) (ps : List Token) : Type 0 where
  pub before : Text
  pub control : WhitespaceControl
  pub tokens : List Token
  pub begins : Reads s o before control tokens
  pub long : count begins ≡ n
  pub more : List Token
  pub parts : ps ≡ tokens ++ more
  pub goes : TextAndTag s o before control

split : (n m : ℕ) → n < suc m → (n ≡ m) ⊎ (n < m)
split n m lt = elim (cases_Bool (n == m)) [
  | inl same ↦ inl (eqb-true n m same)
  | inr other ↦ inr (let apart = eqb-false n m other in omega arith)
]

pub back : {s : Text} {o : Options} {b : Text} {e : WhitespaceControl} {ps : List Token} → (r : Reads s o b e ps) (n : ℕ) → n < count r → ReadPrefix s o n ps
unfolding count
back nothing_read n lt = absurd (omega arith)
back {s} (goes_on {before = b} {control = e} {ps = ps} r x) n lt = elim (split n (count r) lt) [
  | inl here ↦ record { before = b; control = e; tokens = ps; begins = r; long = sym here; more = tokens_of x; parts = refl; goes = x }
  | inr less ↦ let k = back r n less in record {
    before = k.before;
    control = k.control;
    tokens = k.tokens;
    begins = k.begins;
    long = k.long;
    more = k.more ++ tokens_of x;
    parts = ap (λ (z : List Token). z ++ tokens_of x) k.parts ∙ append_assoc k.tokens k.more (tokens_of x);
    goes = k.goes;
  }
]

-- ---- a reading that ends

-- a last text: no tag follows it
pub record LastText (o : Options) (s b : Text) (e : WhitespaceControl) (x unescaped left : Text) : Type 0 where
  pub whole : s ≡ b ++ (x ++ left)
  pub is_text : IsText (braces_after e) left x unescaped
  pub none : NoTagAfter o e left

ends_not : {o : Options} (s b c : Text) (e f : WhitespaceControl) (x unescaped left : Text) → b ≡ c → e ≡ f → TextAndTag s o b e → LastText o s c f x unescaped left → ⊥
ends_not s b c e f x unescaped left bc ef g h =
    let is : g.text ++ (g.token ++ g.rest) ≡ x ++ left = append-after s b c (g.text ++ (g.token ++ g.rest)) (x ++ left) bc g.whole h.whole in
    let texts = same_text e f g.text x g.unescaped unescaped (g.token ++ g.rest) left ef is g.is_text h.is_text in
    h.none g.token g.rest g.tag g.tildes (sym texts.follows) g.is_tag (ap (λ (z : WhitespaceControl). may_follow z g.tag) (sym ef) ∙ g.may_follow)

pub no_longer : {s : Text} {o : Options} {b c x unescaped left : Text} {e f : WhitespaceControl} {ps qs : List Token} → (r : Reads s o b e ps) → LastText o s b e x unescaped left → (q : Reads s o c f qs) → count r < count q → ⊥
no_longer {s} {b = b} {x = x} {unescaped = unescaped} {left = left} {e = e} r h q lt =
    let k = back q (count r) lt in
    let a = one_beginning k.begins r k.long in
    ends_not s k.before b k.control e x unescaped left a.here a.control k.goes h

pub by_order : (n m : ℕ) → (n ≡ m) ⊎ ((n < m) ⊎ (m < n))
by_order n m = elim (cases_Bool (n == m)) [
  | inl same ↦ inl (eqb-true n m same)
  | inr other ↦ let apart = eqb-false n m other in elim (cases_Bool (nat_lt n m)) [
    | inl less ↦ inr (inl (ltb-true n m less))
    | inr more ↦ inr (inr (let le = ltb-false n m more in omega arith))
  ]
]

pub both_end : {s : Text} {o : Options} {b c x y k l left more : Text} {e f : WhitespaceControl} {ps qs : List Token} → (r : Reads s o b e ps) → LastText o s b e x k left → (q : Reads s o c f qs) → LastText o s c f y l more → OneBeginning b c e f ps qs
both_end r h q k = elim (by_order (count r) (count q)) [
  | inl same ↦ one_beginning r q same
  | inr other ↦ elim other [
    | inl less ↦ absurd (no_longer r h q less)
    | inr more ↦ absurd (no_longer q k r more)
  ]
]

pub same_end : {o : Options} (s b c x y k l left more : Text) (e f : WhitespaceControl) → b ≡ c → e ≡ f → LastText o s b e x k left → LastText o s c f y l more → SameText x y k l left more
same_end s b c x y k l left more e f bc ef h g = same_text e f x y k l left more ef (append-after s b c (x ++ left) (y ++ more) bc h.whole g.whole) h.is_text g.is_text

-- ---- tokenizations

nil-cons : (b : ℕ) (t : Text) → [] ≡ b ∷ t → ⊥
nil-cons b t is = absurd cc

beginning_of-nil : beginning_of [] ≡ None
unfolding beginning_of after_byte
beginning_of-nil = refl

nothing_there : (o : Options) (e : WhitespaceControl) → NoTagAfter o e []
nothing_there o e [] rest t tildes is tag may = none-some tag.begins (sym beginning_of-nil ∙ ap beginning_of is ∙ tag.is_beginning)
nothing_there o e (b ∷ token) rest t tildes is tag may = nil-cons b (token ++ rest) is

pub tokens_end : (s : Text) (o : Options) (ps : List Token) → (c : AreTokens s o ps) → LastText o s c.before c.control c.text c.unescaped []
tokens_end s o ps c = record {
  whole = c.whole ∙ ap (λ (z : Text). c.before ++ z) (sym (append-nil c.text));
  is_text = c.is_text;
  none = nothing_there o c.control;
}

pub one_tokenization : OneTokenization
one_tokenization s o ps qs a b =
    let at = both_end a.begins (tokens_end s o ps a) b.begins (tokens_end s o qs b) in
    let texts = same_end s a.before b.before a.text b.text a.unescaped b.unescaped [] [] a.control b.control at.here at.control (tokens_end s o ps a) (tokens_end s o qs b) in
    let here = at.here in let control = at.control in let pieces = at.tokens in let text = texts.tokens in let unescaped = texts.unescaped in
    let all : a.tokens ++ (text_token (position a.before) a.control a.text a.unescaped no_control ∷ []) ≡ b.tokens ++ (text_token (position b.before) b.control b.text b.unescaped no_control ∷ []) = cc in
    a.gives ∙ all ∙ sym b.gives

spelled_tokens-append : (ps qs : List Token) → spelled_tokens (ps ++ qs) ≡ spelled_tokens ps ++ spelled_tokens qs
spelled_tokens-append [] qs = refl
spelled_tokens-append (text_token p e token unescaped n ∷ ps) qs = ap (λ (z : Text). token ++ z) (spelled_tokens-append ps qs) ∙ sym (append_assoc token (spelled_tokens ps) (spelled_tokens qs))
spelled_tokens-append (tag_token p token t e ∷ ps) qs = ap (λ (z : Text). token ++ z) (spelled_tokens-append ps qs) ∙ sym (append_assoc token (spelled_tokens ps) (spelled_tokens qs))

Reads-spelled_tokens : {s : Text} {o : Options} {b : Text} {e : WhitespaceControl} {ps : List Token} → Reads s o b e ps → spelled_tokens ps ≡ b
Reads-spelled_tokens nothing_read = refl
Reads-spelled_tokens (goes_on {before = b} {ps = ps} r x) =
    spelled_tokens-append ps (tokens_of x) ∙ ap (λ (z : Text). z ++ (x.text ++ (x.token ++ []))) (Reads-spelled_tokens r)
    ∙ ap (λ (z : Text). b ++ (x.text ++ z)) (append-nil x.token)

pub tokens_join : TokensJoin
tokens_join s o ps c =
    ap spelled_tokens c.gives ∙ spelled_tokens-append c.tokens (text_token (position c.before) c.control c.text c.unescaped no_control ∷ [])
    ∙ ap (λ (z : Text). z ++ (c.text ++ [])) (Reads-spelled_tokens c.begins)
    ∙ ap (λ (z : Text). c.before ++ z) (append-nil c.text) ∙ sym c.whole
