-- What is known of a state covers the states of a tokenizer that it may stand for, and goes on to do so.
use Rattle.std.proofs.Common.{◌≡◌, ℕ, ◌==◌, Bool, true, false, not, ◌&&◌, ◌||◌, ◌⊎◌, inl, inr, [], ◌∷◌, refl, sym, ap, ◌∙◌, subst, if◌then◌else◌}
use Rattle.std.proofs.lemmas.Bool.{eqb-true}
use Rattle.handlebars_base.specs.Bytes.{Text, slash}
use Rattle.handlebars_html.specs.Ascii.{is_blank_or_control, begins_query}
use Rattle.handlebars_html.specs.Addresses.{Value, harmless, forbidden, followed, loaded, loaded_slash, loaded_authority, loaded_host, step_value}
use Rattle.handlebars_html.specs.Tags.{Tag}
use Rattle.handlebars_html.specs.Tokenizer.{Tokenizer, before_attribute, quoted, in_url, quote_of, misled, comment_start_dash, comment_dash, comment_end, comment_unclear, comment_unclear_dash, stuck, next, is_comment, is_safe_tokenizer}
use Rattle.handlebars_html.specs.Html.{Context, Html, step, after, is_safe, after_data}
use Rattle.handlebars_html.specs.Safety.{StaysIf, Stays}
use Rattle.handlebars_html.proofs.Data.{by_comment, comment-safe, step-next}

pub is_after_dash : Tokenizer → Bool
is_after_dash comment_start_dash = true
is_after_dash comment_dash = true
is_after_dash comment_end = true
is_after_dash comment_unclear_dash = true
is_after_dash t = false

-- The state is within these quotes, whatever is known of the value so far.
abbrev pub IsWithin : Bool → Tag → Context → Html → Type 0
IsWithin double tag n a = (v : Value) × (a ≡ record { tokenizer = quoted double tag v; context = n })

-- A value in which no data may follow stands for any, and each other one for itself.
abbrev CoversValue : Value → Bool → Tag → Context → Html → Type 0
CoversValue forbidden double tag n a = IsWithin double tag n a
CoversValue v double tag n a = a ≡ record { tokenizer = quoted double tag v; context = n }

-- The two unclear states stand for several, and so does that after an address that was written as a value. `stuck` and `misled`
-- stand for any state, and each other state for itself.
abbrev pub CoversAs : Tokenizer → Context → Html → Type 0
CoversAs comment_unclear n a = (is_comment a.tokenizer ≡ true) × (a.context ≡ n)
CoversAs comment_unclear_dash n a = (is_after_dash a.tokenizer ≡ true) × (a.context ≡ n)
CoversAs stuck n a = Unit {0}
CoversAs misled n a = Unit {0}
CoversAs (in_url double tag) n a = (a ≡ record { tokenizer = in_url double tag; context = n }) ⊎ IsWithin double tag n a
CoversAs (quoted double tag v) n a = CoversValue v double tag n a
CoversAs t n a = a ≡ record { tokenizer = t; context = n }

abbrev pub Covers : Html → Html → Type 0
Covers h a = CoversAs h.tokenizer h.context a

dash-comment : (t : Tokenizer) → is_after_dash t ≡ true → is_comment t ≡ true
unfolding is_after_dash
dash-comment comment_start_dash is = refl
dash-comment comment_dash is = refl
dash-comment comment_end is = refl
dash-comment comment_unclear_dash is = refl
dash-comment t is = cc

CoversAs-self : (t : Tokenizer) (n : Context) → CoversAs t n (record { tokenizer = t; context = n })
unfolding is_after_dash
CoversAs-self comment_unclear n = (refl, refl)
CoversAs-self comment_unclear_dash n = (refl, refl)
CoversAs-self stuck n = tt
CoversAs-self misled n = tt
CoversAs-self (in_url double tag) n = inl refl
CoversAs-self (quoted double tag v) n = value-self v
  where
    value-self : (v : Value) → CoversValue v double tag n (record { tokenizer = quoted double tag v; context = n })
    value-self forbidden = (forbidden, refl)
    value-self harmless = refl
    value-self (followed t) = refl
    value-self (loaded t) = refl
    value-self loaded_slash = refl
    value-self loaded_authority = refl
    value-self loaded_host = refl
CoversAs-self t n = refl

pub Covers-self : (h : Html) → Covers h h
Covers-self h = CoversAs-self h.tokenizer h.context

-- ---- a byte

-- a property of each byte, by those that have a meaning in comments, and the others
by_marks : (P : ℕ → Type 0) → P 33 → P 45 → P 60 → P 62
    → ((b : ℕ) → (b == 33) ≡ false → (b == 45) ≡ false → (b == 60) ≡ false → (b == 62) ≡ false → P b) → (b : ℕ) → P b
by_marks P bang dash less greater others b =
    at 33 bang (b == 33) refl (λ e1. at 45 dash (b == 45) refl (λ e2. at 60 less (b == 60) refl (λ e3.
    at 62 greater (b == 62) refl (λ e4. others b e1 e2 e3 e4))))
  where
    at : (k : ℕ) → P k → (x : Bool) → (b == k) ≡ x → ((b == k) ≡ false → P b) → P b
    at k here true is other = subst P (sym (eqb-true b k is)) here
    at k here false is other = other is

-- states of tokenizers, by what is known
abbrev Fits : Tokenizer → Tokenizer → Type 0
Fits comment_unclear t = is_comment t ≡ true
Fits comment_unclear_dash t = is_after_dash t ≡ true
Fits stuck t = Unit {0}
Fits u t = t ≡ u

unclear-next : (t : Tokenizer) → is_comment t ≡ true → (b : ℕ) → Fits (next comment_unclear b) (next t b)
unfolding next is_after_dash
unclear-next t is = by_marks (λ b. Fits (next comment_unclear b) (next t b))
    (by_comment (λ t. Fits (next comment_unclear 33) (next t 33)) refl refl refl refl refl refl refl refl t is)
    (by_comment (λ t. Fits (next comment_unclear 45) (next t 45)) refl refl refl refl refl refl refl refl t is)
    (by_comment (λ t. Fits (next comment_unclear 60) (next t 60)) refl refl refl refl refl refl refl refl t is)
    tt
    (λ b no33 no45 no60 no62. by_comment (λ t. Fits (next comment_unclear b) (next t b))
    (rw (no33, no45, no62) refl) (rw (no33, no45, no62) refl) (rw (no33, no45, no62) refl) (rw (no33, no45, no62) refl)
    (rw (no33, no45, no62) refl) (rw (no33, no45, no62) refl) (rw (no33, no45, no62) refl) (rw (no33, no45, no62) refl) t is)

by_dashed : (P : Tokenizer → Type 0) → P comment_start_dash → P comment_dash → P comment_end → P comment_unclear_dash
    → (t : Tokenizer) → is_after_dash t ≡ true → P t
unfolding is_after_dash
by_dashed P a b c d comment_start_dash is = a
by_dashed P a b c d comment_dash is = b
by_dashed P a b c d comment_end is = c
by_dashed P a b c d comment_unclear_dash is = d
by_dashed P a b c d t is = cc

unclear_dash-next : (t : Tokenizer) → is_after_dash t ≡ true → (b : ℕ) → Fits (next comment_unclear_dash b) (next t b)
unfolding next is_after_dash
unclear_dash-next t is = by_marks (λ b. Fits (next comment_unclear_dash b) (next t b))
    (by_dashed (λ t. Fits (next comment_unclear_dash 33) (next t 33)) refl refl refl refl t is)
    (by_dashed (λ t. Fits (next comment_unclear_dash 45) (next t 45)) refl refl refl refl t is)
    (by_dashed (λ t. Fits (next comment_unclear_dash 60) (next t 60)) refl refl refl refl t is)
    tt
    (λ b no33 no45 no60 no62. by_dashed (λ t. Fits (next comment_unclear_dash b) (next t b))
    (rw (no33, no45, no62) refl) (rw (no33, no45, no62) refl) (rw (no33, no45, no62) refl) (rw (no33, no45, no62) refl) t is)

Fits-covers : (u t : Tokenizer) (n : Context) → Fits u t → CoversAs u n (record { tokenizer = t; context = n })
Fits-covers comment_unclear t n is = (is, refl)
Fits-covers comment_unclear_dash t n is = (is, refl)
Fits-covers stuck t n is = tt
Fits-covers misled t n is = tt
Fits-covers (in_url double tag) t n is = inl (ap (λ (x : Tokenizer). record { tokenizer = x; context = n }) is)
Fits-covers (quoted double tag v) t n is =
    subst (λ (x : Tokenizer). CoversAs (quoted double tag v) n (record { tokenizer = x; context = n })) (sym is)
    (CoversAs-self (quoted double tag v) n)
Fits-covers u t n is = ap (λ (x : Tokenizer). record { tokenizer = x; context = n }) is

-- ---- within a comment

abbrev html : Tokenizer → Context → Html
html t n = record { tokenizer = t; context = n }

comment_step : Tokenizer → Context → ℕ → Tokenizer
comment_step t n b = if (b == 60) && n.in_noscript then stuck else next t b

comment-greater : (t : Tokenizer) (n : Context) → is_comment t ≡ true → step (html t n) 62 ≡ html (comment_step t n 62) n
unfolding step comment_step
comment-greater t n is =
    by_comment (λ t. step (html t n) 62 ≡ html (comment_step t n 62) n) refl refl refl refl refl refl refl refl t is

and_true : (x : Bool) → (x && true) ≡ x
and_true true = refl
and_true false = refl

comment-less : (t : Tokenizer) (n : Context) → is_comment t ≡ true → step (html t n) 60 ≡ html (comment_step t n 60) n
unfolding step comment_step
comment-less t n is =
    by_comment (λ t. step (html t n) 60 ≡ html (if n.in_noscript && true then stuck else next t 60) n)
    refl refl refl refl refl refl refl refl t is
    ∙ ap (λ (x : Bool). html (if x then stuck else next t 60) n) (and_true n.in_noscript)

comment-other : (t : Tokenizer) (n : Context) (b : ℕ) → (b == 60) ≡ false → (b == 62) ≡ false
    → step (html t n) b ≡ html (comment_step t n b) n
unfolding comment_step
comment-other t n b no60 no62 =
    step-next (html t n) b no60 no62
    ∙ ap (λ (x : Bool). html (if x && n.in_noscript then stuck else next t b) n) (sym no60)

step-comment : (t : Tokenizer) (n : Context) (b : ℕ) → is_comment t ≡ true → step (html t n) b ≡ html (comment_step t n b) n
step-comment t n b is = by_marks (λ b. step (html t n) b ≡ html (comment_step t n b) n)
    (comment-other t n 33 refl refl) (comment-other t n 45 refl refl) (comment-less t n is) (comment-greater t n is)
    (λ b no33 no45 no60 no62. comment-other t n b no60 no62) b

if-Fits : (x : Bool) (u t : Tokenizer) → Fits u t → Fits (if x then stuck else u) (if x then stuck else t)
if-Fits true u t is = tt
if-Fits false u t is = is

unclear-step : (t : Tokenizer) (n : Context) (b : ℕ) → is_comment t ≡ true
    → Covers (step (html comment_unclear n) b) (step (html t n) b)
unfolding comment_step
unclear-step t n b is =
    subst (λ (x : Html). Covers x (step (html t n) b)) (sym (step-comment comment_unclear n b refl))
    (subst (Covers (html (comment_step comment_unclear n b) n)) (sym (step-comment t n b is))
    (Fits-covers _ _ n (if-Fits ((b == 60) && n.in_noscript) (next comment_unclear b) (next t b) (unclear-next t is b))))

unclear_dash-step : (t : Tokenizer) (n : Context) (b : ℕ) → is_after_dash t ≡ true
    → Covers (step (html comment_unclear_dash n) b) (step (html t n) b)
unfolding comment_step
unclear_dash-step t n b is =
    subst (λ (x : Html). Covers x (step (html t n) b)) (sym (step-comment comment_unclear_dash n b refl))
    (subst (Covers (html (comment_step comment_unclear_dash n b) n)) (sym (step-comment t n b (dash-comment t is)))
    (Fits-covers _ _ n (if-Fits ((b == 60) && n.in_noscript) (next comment_unclear_dash b) (next t b) (unclear_dash-next t is b))))

stuck-step : (n : Context) (b : ℕ) → step (html stuck n) b ≡ html stuck n
unfolding step next
stuck-step n b = by_marks (λ b. step (html stuck n) b ≡ html stuck n) refl refl (less n) refl
    (λ b no33 no45 no60 no62. step-next (html stuck n) b no60 no62) b
  where
    either : (x : Bool) → (if x then stuck else stuck) ≡ stuck
    either true = refl
    either false = refl

    less : (n : Context) → step (html stuck n) 60 ≡ html stuck n
    less n = ap (λ (t : Tokenizer). html t n) (either (n.in_noscript && not false))

misled-step : (n : Context) (b : ℕ) → step (html misled n) b ≡ html misled n
unfolding step next
misled-step n b = by_marks (λ b. step (html misled n) b ≡ html misled n) refl refl (less n) refl
    (λ b no33 no45 no60 no62. step-next (html misled n) b no60 no62) b
  where
    never : (x : Bool) → (if x && false then stuck else misled) ≡ misled
    never true = refl
    never false = refl

    less : (n : Context) → step (html misled n) 60 ≡ html misled n
    less n = ap (λ (t : Tokenizer). html t n) (never n.in_noscript)

-- ---- within quotes

quoted-step : (double : Bool) (tag : Tag) (v : Value) (n : Context) (b : ℕ)
    → step (html (quoted double tag v) n) b ≡ html (comment_step (quoted double tag v) n b) n
unfolding step comment_step
quoted-step double tag v n b =
    by_marks (λ b. step (html (quoted double tag v) n) b ≡ html (comment_step (quoted double tag v) n b) n)
    (comment-other (quoted double tag v) n 33 refl refl) (comment-other (quoted double tag v) n 45 refl refl)
    (ap (λ (x : Bool). html (if x then stuck else next (quoted double tag v) 60) n) (and_true n.in_noscript)) refl
    (λ b no33 no45 no60 no62. comment-other (quoted double tag v) n b no60 no62) b

in_url-step : (double : Bool) (tag : Tag) (n : Context) (b : ℕ)
    → step (html (in_url double tag) n) b ≡ html (comment_step (in_url double tag) n b) n
unfolding step comment_step
in_url-step double tag n b =
    by_marks (λ b. step (html (in_url double tag) n) b ≡ html (comment_step (in_url double tag) n b) n)
    (comment-other (in_url double tag) n 33 refl refl) (comment-other (in_url double tag) n 45 refl refl)
    (ap (λ (x : Bool). html (if x then stuck else next (in_url double tag) 60) n) (and_true n.in_noscript)) refl
    (λ b no33 no45 no60 no62. comment-other (in_url double tag) n b no60 no62) b

-- as one state covers another, unless both are stuck
CoversAs-if : (x : Bool) (s t : Tokenizer) (n : Context) → CoversAs s n (html t n)
    → CoversAs (if x then stuck else s) n (html (if x then stuck else t) n)
CoversAs-if true s t n is = tt
CoversAs-if false s t n is = is

in_url-next : (double : Bool) (tag : Tag) (v : Value) (n : Context) (b : ℕ)
    → CoversAs (next (in_url double tag) b) n (html (next (quoted double tag v) b) n)
unfolding next
in_url-next double tag v n b = by (b == quote_of double) (is_blank_or_control b) ((b == slash) || begins_query b)
  where
    by : (x y z : Bool)
        → CoversAs (if x then before_attribute tag else (if y then in_url double tag else (if z then quoted double tag forbidden else misled)))
        n (html (if x then before_attribute tag else quoted double tag (step_value v b)) n)
    by true y z = refl
    by false true z = inr (step_value v b, refl)
    by false false true = (step_value v b, refl)
    by false false false = tt

forbidden-next : (double : Bool) (tag : Tag) (v : Value) (n : Context) (b : ℕ)
    → CoversAs (next (quoted double tag forbidden) b) n (html (next (quoted double tag v) b) n)
unfolding next
forbidden-next double tag v n b = by (b == quote_of double)
  where
    by : (x : Bool) → CoversAs (if x then before_attribute tag else quoted double tag forbidden) n
        (html (if x then before_attribute tag else quoted double tag (step_value v b)) n)
    by true = refl
    by false = (step_value v b, refl)

within-step : (s : Tokenizer) (double : Bool) (tag : Tag) (n : Context) (b : ℕ)
    → step (html s n) b ≡ html (comment_step s n b) n
    → ((v : Value) → CoversAs (next s b) n (html (next (quoted double tag v) b) n))
    → (a : Html) → IsWithin double tag n a → Covers (step (html s n) b) (step a b)
unfolding comment_step
within-step s double tag n b is covers a c =
    subst (λ (x : Html). Covers x (step a b)) (sym is)
    (subst (λ (x : Html). Covers (html (comment_step s n b) n) (step x b)) (sym c.1)
    (subst (Covers (html (comment_step s n b) n)) (sym (quoted-step double tag c.0 n b))
    (CoversAs-if ((b == 60) && n.in_noscript) (next s b) (next (quoted double tag c.0) b) n (covers c.0))))

same-step : (t : Tokenizer) (n : Context) (a : Html) (b : ℕ) → a ≡ html t n → Covers (step (html t n) b) (step a b)
same-step t n a b c = subst (λ (x : Html). Covers (step (html t n) b) (step x b)) (sym c) (Covers-self (step (html t n) b))

CoversValue-step : (v : Value) (double : Bool) (tag : Tag) (n : Context) (a : Html) (b : ℕ) → CoversValue v double tag n a
    → Covers (step (html (quoted double tag v) n) b) (step a b)
CoversValue-step forbidden double tag n a b c =
    within-step (quoted double tag forbidden) double tag n b (quoted-step double tag forbidden n b)
    (λ v. forbidden-next double tag v n b) a c
CoversValue-step harmless double tag n a b c = same-step _ n a b c
CoversValue-step (followed t) double tag n a b c = same-step _ n a b c
CoversValue-step (loaded t) double tag n a b c = same-step _ n a b c
CoversValue-step loaded_slash double tag n a b c = same-step _ n a b c
CoversValue-step loaded_authority double tag n a b c = same-step _ n a b c
CoversValue-step loaded_host double tag n a b c = same-step _ n a b c

with-flag : (h : Html) (n : Context) → h.context ≡ n → h ≡ html h.tokenizer n
with-flag h n is = ap (λ (x : Context). html h.tokenizer x) is

CoversAs-step : (t : Tokenizer) (n : Context) (a : Html) (b : ℕ) → CoversAs t n a → Covers (step (html t n) b) (step a b)
CoversAs-step comment_unclear n a b c =
    subst (λ (x : Html). Covers (step (html comment_unclear n) b) (step x b)) (sym (with-flag a n c.1))
    (unclear-step a.tokenizer n b c.0)
CoversAs-step comment_unclear_dash n a b c =
    subst (λ (x : Html). Covers (step (html comment_unclear_dash n) b) (step x b)) (sym (with-flag a n c.1))
    (unclear_dash-step a.tokenizer n b c.0)
CoversAs-step stuck n a b c = subst (λ (x : Html). Covers x (step a b)) (sym (stuck-step n b)) tt
CoversAs-step misled n a b c = subst (λ (x : Html). Covers x (step a b)) (sym (misled-step n b)) tt
CoversAs-step (in_url double tag) n a b c = elim c [
  | inl same ↦ same-step (in_url double tag) n a b same
  | inr within ↦ within-step (in_url double tag) double tag n b (in_url-step double tag n b) (λ v. in_url-next double tag v n b) a within
]
CoversAs-step (quoted double tag v) n a b c = CoversValue-step v double tag n a b c
CoversAs-step t n a b c = same-step t n a b c

-- What is known goes on to cover what it stands for.
pub after-covers : (h a : Html) (t : Text) → Covers h a → Covers (after h t) (after a t)
after-covers h a [] c = c
after-covers h a (b ∷ t) c = after-covers (step h b) (step a b) t (CoversAs-step h.tokenizer h.context a b c)

-- ---- data

CoversAs-comment : (t : Tokenizer) (n : Context) (a : Html) → is_comment t ≡ true → CoversAs t n a
    → (is_comment a.tokenizer ≡ true) × (a.context ≡ n)
CoversAs-comment comment_unclear n a is c = c
CoversAs-comment comment_unclear_dash n a is c = (dash-comment a.tokenizer c.0, c.1)
CoversAs-comment stuck n a is c = cc
CoversAs-comment misled n a is c = cc
CoversAs-comment (in_url double tag) n a is c = cc
CoversAs-comment (quoted double tag v) n a is c = cc
CoversAs-comment t n a is c =
    (ap (λ (x : Html). is_comment x.tokenizer) c ∙ is, ap (λ (x : Html). x.context) c)

CoversAs-exact : (t : Tokenizer) (n : Context) (a : Html) → is_comment t ≡ false → is_safe_tokenizer t ≡ true → CoversAs t n a
    → a ≡ html t n
CoversAs-exact comment_unclear n a other safe c = cc
CoversAs-exact comment_unclear_dash n a other safe c = cc
CoversAs-exact stuck n a other safe c = cc
CoversAs-exact misled n a other safe c = cc
CoversAs-exact (in_url double tag) n a other safe c = cc
CoversAs-exact (quoted double tag harmless) n a other safe c = c
CoversAs-exact (quoted double tag forbidden) n a other safe c = cc
CoversAs-exact (quoted double tag (followed t)) n a other safe c = cc
CoversAs-exact (quoted double tag (loaded t)) n a other safe c = cc
CoversAs-exact (quoted double tag loaded_slash) n a other safe c = cc
CoversAs-exact (quoted double tag loaded_authority) n a other safe c = cc
CoversAs-exact (quoted double tag loaded_host) n a other safe c = cc
CoversAs-exact t n a other safe c = c

-- Where data may stand by what is known, it may stand.
pub Covers-safe : (h a : Html) → is_safe h ≡ true → Covers h a → is_safe a ≡ true
Covers-safe h a safe c = by (is_comment h.tokenizer) refl
  where
    by : (x : Bool) → is_comment h.tokenizer ≡ x → is_safe a ≡ true
    by true at = comment-safe a.tokenizer (CoversAs-comment h.tokenizer h.context a at c).0
    by false at = ap is_safe (CoversAs-exact h.tokenizer h.context a at safe c) ∙ safe

-- After data that stays what is known then covers the state.
pub Stays-covers : (h a g : Html) → is_safe h ≡ true → Covers h a → Stays a g → Covers (after_data h) g
Stays-covers h a g safe c stays = by (is_comment h.tokenizer) refl
  where
    by : (x : Bool) → is_comment h.tokenizer ≡ x → Covers (record h { tokenizer = if x then comment_unclear else h.tokenizer }) g
    by true at =
        let there = CoversAs-comment h.tokenizer h.context a at c in
        let later : StaysIf true a g = subst (λ (x : Bool). StaysIf x a g) there.0 stays in
        (later.0, later.1 ∙ there.1)
    by false at =
        let same = CoversAs-exact h.tokenizer h.context a at safe c in
        let later : StaysIf false a g = subst (λ (x : Bool). StaysIf x a g) (ap (λ (x : Html). is_comment x.tokenizer) same ∙ at) stays in
        subst (Covers h) (sym (later ∙ same)) (Covers-self h)
