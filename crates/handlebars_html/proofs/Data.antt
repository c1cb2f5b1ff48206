-- Data leaves a state in which it may stand: bytes without a meaning in HTML, and texts of them.
use Rattle.std.proofs.Common.{◌≡◌, ℕ, ◌==◌, Bool, true, false, ◌&&◌, [], ◌∷◌, ◌++◌, refl, sym, ap, ◌∙◌, subst, arith, if◌then◌else◌}
use Rattle.std.specs.List.{list_all}
use Rattle.std.proofs.lemmas.Bool.Decides.{nat_tests}
use Rattle.std.proofs.lemmas.List.Folds.{list_all-append}
use Rattle.handlebars_base.specs.Bytes.{Text}
use Rattle.handlebars_base.specs.Outputs.{IsPrefix}
use Rattle.handlebars_html.specs.Addresses.{harmless, forbidden, followed, loaded, loaded_slash, loaded_authority, loaded_host}
use Rattle.handlebars_html.specs.Tokenizer.{Tokenizer, in_data, quoted, comment_start, comment_start_dash, in_comment, comment_dash, comment_end, comment_bang, comment_unclear, comment_unclear_dash, in_text, stuck, by_dash, next, is_comment, is_safe_tokenizer}
use Rattle.handlebars_html.specs.Html.{Html, step, after, is_safe, is_unmarked}
use Rattle.handlebars_html.specs.Safety.{StaysIf, Stays, StandsAt}

pub both : (x y : Bool) → (x && y) ≡ true → (x ≡ true) × (y ≡ true)
both true y h = (refl, h)
both false y h = cc

-- ---- bytes

pub no_less : (b : ℕ) → is_unmarked b ≡ true → (b == 60) ≡ false
unfolding is_unmarked
no_less b h = grind (arith, nat_tests)

pub no_greater : (b : ℕ) → is_unmarked b ≡ true → (b == 62) ≡ false
unfolding is_unmarked
no_greater b h = grind (arith, nat_tests)

pub no_double : (b : ℕ) → is_unmarked b ≡ true → (b == 34) ≡ false
unfolding is_unmarked
no_double b h = grind (arith, nat_tests)

pub no_single : (b : ℕ) → is_unmarked b ≡ true → (b == 39) ≡ false
unfolding is_unmarked
no_single b h = grind (arith, nat_tests)

-- A byte that is neither `<` nor `>` leaves it as it is whether the state is within `noscript`.
pub step-next : (h : Html) (b : ℕ) → (b == 60) ≡ false → (b == 62) ≡ false
    → step h b ≡ record h { tokenizer = next h.tokenizer b }
unfolding step
step-next h b no60 no62 = rw (no60, no62) refl

-- ---- comments

-- the states of comments, one by one
pub by_comment : (P : Tokenizer → Type 0) → P comment_start → P comment_start_dash → P in_comment → P comment_dash → P comment_end
    → P comment_bang → P comment_unclear → P comment_unclear_dash → (t : Tokenizer) → is_comment t ≡ true → P t
by_comment P a b c d e f g h comment_start is = a
by_comment P a b c d e f g h comment_start_dash is = b
by_comment P a b c d e f g h in_comment is = c
by_comment P a b c d e f g h comment_dash is = d
by_comment P a b c d e f g h comment_end is = e
by_comment P a b c d e f g h comment_bang is = f
by_comment P a b c d e f g h comment_unclear is = g
by_comment P a b c d e f g h comment_unclear_dash is = h
by_comment P a b c d e f g h t is = cc

if-comment : (x : Bool) (s t : Tokenizer) → is_comment s ≡ true → is_comment t ≡ true
    → is_comment (if x then s else t) ≡ true
if-comment true s t i j = i
if-comment false s t i j = j

by_dash-comment : (b : ℕ) → (b == 62) ≡ false → (dash greater other : Tokenizer) → is_comment dash ≡ true
    → is_comment other ≡ true → is_comment (by_dash b dash greater other) ≡ true
by_dash-comment b no62 dash greater other i j =
    if-comment (b == 45) dash _ i (subst (λ (x : Bool). is_comment (if x then greater else other) ≡ true) (sym no62) j)

-- A byte that isn't `>` doesn't leave a comment.
pub next-comment : (t : Tokenizer) (b : ℕ) → (b == 62) ≡ false → is_comment t ≡ true → is_comment (next t b) ≡ true
unfolding next
next-comment t b no62 is = by_comment (λ t. is_comment (next t b) ≡ true)
    (by_dash-comment b no62 comment_start_dash in_data in_comment refl refl)
    (by_dash-comment b no62 comment_end in_data in_comment refl refl)
    (by_dash-comment b no62 comment_dash in_comment in_comment refl refl)
    (by_dash-comment b no62 comment_end in_comment in_comment refl refl)
    (if-comment (b == 33) comment_bang _ refl (by_dash-comment b no62 comment_end in_data in_comment refl refl))
    (by_dash-comment b no62 comment_dash in_data in_comment refl refl)
    (if-comment (b == 33) comment_unclear _ refl (by_dash-comment b no62 comment_unclear_dash stuck in_comment refl refl))
    (if-comment (b == 33) comment_unclear _ refl (by_dash-comment b no62 comment_end stuck in_comment refl refl))
    t is

pub comment-safe : (t : Tokenizer) → is_comment t ≡ true → is_safe_tokenizer t ≡ true
comment-safe t is = by_comment (λ t. is_safe_tokenizer t ≡ true) refl refl refl refl refl refl refl refl t is

-- ---- other states in which data may stand

next-same : (t : Tokenizer) (b : ℕ) → is_comment t ≡ false → is_safe_tokenizer t ≡ true → is_unmarked b ≡ true → next t b ≡ t
unfolding next
next-same in_data b other safe is = rw (no_less b is) refl
next-same (in_text x n) b other safe is = rw (no_less b is) refl
next-same (quoted true tag harmless) b other safe is = rw (no_double b is) refl
next-same (quoted false tag harmless) b other safe is = rw (no_single b is) refl
next-same (quoted x tag forbidden) b other safe is = cc
next-same (quoted x tag (followed t)) b other safe is = cc
next-same (quoted x tag (loaded t)) b other safe is = cc
next-same (quoted x tag loaded_slash) b other safe is = cc
next-same (quoted x tag loaded_authority) b other safe is = cc
next-same (quoted x tag loaded_host) b other safe is = cc
next-same t b other safe is = cc

-- ---- where a state stays

pub Stays-self : (h : Html) → Stays h h
Stays-self h = by (is_comment h.tokenizer) refl
  where
    by : (c : Bool) → is_comment h.tokenizer ≡ c → StaysIf c h h
    by true is = (is, refl)
    by false is = refl

pub Stays-safe : (h g : Html) → is_safe h ≡ true → Stays h g → is_safe g ≡ true
Stays-safe h g safe stays = by (is_comment h.tokenizer) stays
  where
    by : (c : Bool) → StaysIf c h g → is_safe g ≡ true
    by true is = comment-safe g.tokenizer is.0
    by false is = ap is_safe is ∙ safe

pub Stays-join : (h g k : Html) → Stays h g → Stays g k → Stays h k
Stays-join h g k first second = by (is_comment h.tokenizer) refl first
  where
    by : (c : Bool) → is_comment h.tokenizer ≡ c → StaysIf c h g → StaysIf c h k
    by true at is =
        let later : StaysIf true g k = subst (λ (c : Bool). StaysIf c g k) is.0 second in (later.0, later.1 ∙ is.1)
    by false at is =
        let later : StaysIf false g k = subst (λ (c : Bool). StaysIf c g k) (ap (λ (x : Html). is_comment x.tokenizer) is ∙ at) second in
        later ∙ is

step-stays : (h : Html) (b : ℕ) → is_safe h ≡ true → is_unmarked b ≡ true → Stays h (step h b)
step-stays h b safe is = subst (Stays h) (sym (step-next h b (no_less b is) (no_greater b is))) (by (is_comment h.tokenizer) refl)
  where
    by : (c : Bool) → is_comment h.tokenizer ≡ c → StaysIf c h (record h { tokenizer = next h.tokenizer b })
    by true at = (next-comment h.tokenizer b (no_greater b is) at, refl)
    by false at = ap (λ (t : Tokenizer). record h { tokenizer = t }) (next-same h.tokenizer b at safe is)

pub after-append : (h : Html) (xs ys : Text) → after h (xs ++ ys) ≡ after (after h xs) ys
after-append h [] ys = refl
after-append h (x ∷ xs) ys = after-append (step h x) xs ys

-- After a text without marks a state stays in which data may stand.
pub after-stays : (h : Html) (t : Text) → is_safe h ≡ true → list_all is_unmarked t ≡ true → Stays h (after h t)
after-stays h [] safe is = Stays-self h
after-stays h (b ∷ t) safe is =
    let each = both (is_unmarked b) (list_all is_unmarked t) is in
    let first = step-stays h b safe each.0 in
    Stays-join h (step h b) (after (step h b) t) first
    (after-stays (step h b) t (Stays-safe h (step h b) safe first) each.1)

pub list_all-prefix : (test : ℕ → Bool) (t all : Text) → IsPrefix t all → list_all test all ≡ true → list_all test t ≡ true
list_all-prefix test t all (rest, e) is =
    (both (list_all test t) (list_all test rest) (sym (list_all-append test t rest) ∙ ap (list_all test) (sym e) ∙ is)).0

-- So such a text stands there safely.
pub stands_at : (h : Html) (t : Text) → is_safe h ≡ true → list_all is_unmarked t ≡ true → StandsAt h t
stands_at h t safe is = record {
  safe = safe;
  stays = λ prefix f. after-stays h prefix safe (list_all-prefix is_unmarked prefix t f is);
}
