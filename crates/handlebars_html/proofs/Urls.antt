-- Addresses that run no script, at the beginning of an address within quotes.
use Rattle.std.proofs.Common.{◌≡◌, ℕ, ◌==◌, Bool, true, false, not, ◌&&◌, ◌||◌, inr, List, [], ◌∷◌, ◌++◌, refl, sym, ap, ◌∙◌, subst, Option, None, Some, unwrap_or, if◌then◌else◌}
use Rattle.std.specs.List.{list_all}
use Rattle.std.proofs.lemmas.List.Folds.{list_all-append}
use Rattle.handlebars_base.specs.Bytes.{Text, newline}
use Rattle.handlebars_base.specs.Escape.{escaped_byte, escaped}
use Rattle.handlebars_base.proofs.EscapedBytes.{by_bytes, escaped_byte-other}
use Rattle.handlebars_scope.specs.Indentation.{longer, lines_of, takes_indent}
use Rattle.handlebars_scope.specs.LineState.{LineState}
use Rattle.handlebars_helpers.specs.SafeUrl.{is_removed, is_safe_url}
use Rattle.handlebars_semantics.specs.Pieces.{Origin, Piece, join, pieces_of, indent_pieces, pieces_between, pieces_put}
use Rattle.handlebars_semantics.proofs.Runs.{join-append}
use Rattle.handlebars_html.specs.Addresses.{Value, harmless, forbidden, followed, loaded, loaded_slash, loaded_authority, loaded_host, step_value}
use Rattle.handlebars_html.specs.Tags.{Tag}
use Rattle.handlebars_html.specs.Tokenizer.{Tokenizer, quoted, next, begins_url, after_address}
use Rattle.handlebars_html.specs.Html.{Context, Html, step, after, is_unmarked, is_blank}
use Rattle.handlebars_html.specs.Safety.{InSameQuotes, IsUrlAt, as_url}
use Rattle.handlebars_html.proofs.Blanks.{after-blanks}
use Rattle.handlebars_html.proofs.Covers.{IsWithin, CoversAs, Covers}
use Rattle.handlebars_html.proofs.Data.{both, no_less, no_greater, no_double, no_single, step-next, after-append, list_all-prefix}
use Rattle.handlebars_html.proofs.Pieces.{AreSafe, AreSafe-append}

abbrev html : Tokenizer → Context → Html
html t n = record { tokenizer = t; context = n }

-- ---- within quotes

quoted-next : (double : Bool) (tag : Tag) (v : Value) (b : ℕ) → is_unmarked b ≡ true
    → next (quoted double tag v) b ≡ quoted double tag (step_value v b)
unfolding next
quoted-next true tag v b is = rw (no_double b is) refl
quoted-next false tag v b is = rw (no_single b is) refl

quoted-step : (double : Bool) (tag : Tag) (v : Value) (n : Context) (b : ℕ) → is_unmarked b ≡ true
    → step (html (quoted double tag v) n) b ≡ html (quoted double tag (step_value v b)) n
quoted-step double tag v n b is =
    step-next (html (quoted double tag v) n) b (no_less b is) (no_greater b is)
    ∙ ap (λ (t : Tokenizer). html t n) (quoted-next double tag v b is)

-- A text without marks stays within quotes.
quoted-after : (double : Bool) (tag : Tag) (v : Value) (n : Context) (t : Text) → list_all is_unmarked t ≡ true
    → IsWithin double tag n (after (html (quoted double tag v) n) t)
quoted-after double tag v n [] is = (v, refl)
quoted-after double tag v n (b ∷ t) is =
    let each = both (is_unmarked b) (list_all is_unmarked t) is in
    subst (λ (g : Html). IsWithin double tag n (after g t)) (sym (quoted-step double tag v n b each.0))
    (quoted-after double tag (step_value v b) n t each.1)

-- ---- the beginning of an address

-- the tokenizers that are there
pub by_beginning : (P : Tokenizer → Type 0) → ((double : Bool) (tag : Tag) → P (quoted double tag (followed []))) → (t : Tokenizer)
    → begins_url t ≡ true → P t
by_beginning P here (quoted double tag (followed [])) is = here double tag
by_beginning P here (quoted double tag (followed (b ∷ t))) is = cc
by_beginning P here (quoted double tag harmless) is = cc
by_beginning P here (quoted double tag forbidden) is = cc
by_beginning P here (quoted double tag (loaded t)) is = cc
by_beginning P here (quoted double tag loaded_slash) is = cc
by_beginning P here (quoted double tag loaded_authority) is = cc
by_beginning P here (quoted double tag loaded_host) is = cc
by_beginning P here t is = cc

quoted-space : (double : Bool) (tag : Tag) (n : Context)
    → step (html (quoted double tag (followed [])) n) 32 ≡ html (quoted double tag (followed [])) n
unfolding step next
quoted-space true tag n = refl
quoted-space false tag n = refl

quoted-tab : (double : Bool) (tag : Tag) (n : Context)
    → step (html (quoted double tag (followed [])) n) 9 ≡ html (quoted double tag (followed [])) n
unfolding step next
quoted-tab true tag n = refl
quoted-tab false tag n = refl

-- Blanks leave it.
beginning-blanks : (a : Html) → begins_url a.tokenizer ≡ true → (w : Text) → list_all is_blank w ≡ true → after a w ≡ a
beginning-blanks a begins w blank =
    after-blanks a (at_space a.tokenizer a.context begins) (at_tab a.tokenizer a.context begins) w blank
  where
    at_space : (t : Tokenizer) (n : Context) → begins_url t ≡ true → step (html t n) 32 ≡ html t n
    at_space t n is = by_beginning (λ t. step (html t n) 32 ≡ html t n) (λ double tag. quoted-space double tag n) t is

    at_tab : (t : Tokenizer) (n : Context) → begins_url t ≡ true → step (html t n) 9 ≡ html t n
    at_tab t n is = by_beginning (λ t. step (html t n) 9 ≡ html t n) (λ double tag. quoted-tab double tag n) t is

-- A text without marks stays in the quotes of the beginning.
abbrev pub StaysIn : Html → Html → Type 0
StaysIn a g = InSameQuotes a.tokenizer g.tokenizer × (g.context ≡ a.context)

beginning-after : (a : Html) → begins_url a.tokenizer ≡ true → (t : Text) → list_all is_unmarked t ≡ true → StaysIn a (after a t)
beginning-after a begins t is = by a.tokenizer a.context begins
  where
    by : (s : Tokenizer) (n : Context) → begins_url s ≡ true → StaysIn (html s n) (after (html s n) t)
    by s n begins = by_beginning (λ s. StaysIn (html s n) (after (html s n) t)) (λ double tag.
        let there = quoted-after double tag (followed []) n t is in
        ((there.0, ap (λ (g : Html). g.tokenizer) there.1), ap (λ (g : Html). g.context) there.1)) s begins

append_none : (t : Text) → t ++ [] ≡ t
append_none [] = refl
append_none (b ∷ t) = ap (λ (z : Text). b ∷ z) (append_none t)

url_at : (a : Html) → begins_url a.tokenizer ≡ true → (address : Text) → is_safe_url address ≡ true
    → list_all is_unmarked (escaped address) ≡ true → IsUrlAt a (escaped address)
url_at a begins address safe unmarked = record {
  begins = begins;
  address = address;
  safe = safe;
  text = ([], sym (append_none (escaped address)));
  stays = λ prefix f. beginning-after a begins prefix (list_all-prefix is_unmarked prefix (escaped address) f unmarked);
}

-- ---- an address has one line

abbrev is_kept : ℕ → Bool
is_kept b = not (b == newline)

kept-byte : (b : ℕ) → not (is_removed b) ≡ true → is_kept b ≡ true
kept-byte b is = by (b == 9) (b == 10) (b == 13) is
  where
    by : (x y z : Bool) → not (x || (y || z)) ≡ true → not y ≡ true
    by true y z is = cc
    by false true z is = cc
    by false false z is = refl

kept-escaped : (b : ℕ) → not (is_removed b) ≡ true → list_all is_kept (escaped_byte b) ≡ true
kept-escaped = by_bytes (λ b. not (is_removed b) ≡ true → list_all is_kept (escaped_byte b) ≡ true)
    (λ is. refl) (λ is. refl) (λ is. refl) (λ is. refl) (λ is. refl) (λ is. refl) (λ is. refl)
    (λ b o is. ap (list_all is_kept) (escaped_byte-other b o) ∙ single b (kept-byte b is))
  where
    single : (b : ℕ) → is_kept b ≡ true → list_all is_kept (b ∷ []) ≡ true
    single b is = rw is refl

kept-text : (t : Text) → list_all (λ b. not (is_removed b)) t ≡ true → list_all is_kept (escaped t) ≡ true
unfolding escaped
kept-text [] is = refl
kept-text (b ∷ t) is =
    let each = both (not (is_removed b)) (list_all (λ b. not (is_removed b)) t) is in
    list_all-append is_kept (escaped_byte b) (escaped t)
    ∙ ap (λ (x : Bool). x && list_all is_kept (escaped t)) (kept-escaped b each.0) ∙ kept-text t each.1

abbrev one_line : Text → List Text
one_line [] = []
one_line (b ∷ t) = (b ∷ t) ∷ []

lines-one : (t : Text) → list_all is_kept t ≡ true → lines_of t ≡ one_line t
lines-one [] is = refl
lines-one (b ∷ t) is =
    let each = both (is_kept b) (list_all is_kept t) is in
    by (b == newline) each.0 ∙ ap (longer b) (lines-one t each.1) ∙ longer-one b t
  where
    by : (x : Bool) → not x ≡ true → (if x then (b ∷ []) ∷ lines_of t else longer b (lines_of t)) ≡ longer b (lines_of t)
    by true is = cc
    by false is = refl

    longer-one : (b : ℕ) (t : Text) → longer b (one_line t) ≡ (b ∷ t) ∷ []
    longer-one b [] = refl
    longer-one b (c ∷ t) = refl

-- ---- the pieces of an address

module _ (a : Html) (begins : begins_url a.tokenizer ≡ true) (o : Origin) where
  -- they stand safely, and lead to a state in the same quotes
  abbrev pub IsThere : List Piece → Type 0
  IsThere ps = AreSafe a ps × StaysIn a (after a (join ps))

  none-there : (t : Text) → IsUrlAt a t → IsThere []
  none-there t at = (tt, at.stays [] (t, refl))

  whole-there : (t : Text) → IsUrlAt a t → IsThere (record { origin = o; text = t } ∷ [])
  whole-there t at = (
    ((λ of_data. as_url at), tt),
    subst (λ (x : Text). StaysIn a (after a x)) (sym (append_none t)) (at.stays t ([], sym (append_none t))),
  )

  pieces-there : (t : Text) → IsUrlAt a t → IsThere (pieces_of o t)
  pieces-there [] at = none-there [] at
  pieces-there (b ∷ t) at = whole-there (b ∷ t) at

  between-there : (indent : List Piece) (t : Text) → IsUrlAt a t → IsThere (pieces_between o indent (one_line t))
  between-there indent [] at = none-there [] at
  between-there indent (b ∷ t) at = whole-there (b ∷ t) at

  -- pieces that leave the state as it is come before
  after-there : (xs ys : List Piece) → AreSafe a xs → after a (join xs) ≡ a → IsThere ys → IsThere (xs ++ ys)
  after-there xs ys free same there = (
    AreSafe-append a xs ys free (subst (λ (g : Html). AreSafe g ys) (sym same) there.0),
    subst (StaysIn a) (sym (ap (after a) (join-append xs ys) ∙ after-append a (join xs) (join ys)
        ∙ ap (λ (g : Html). after g (join ys)) same)) there.1,
  )

  indents-free : (w : Text) → AreSafe a (indent_pieces o w)
  indents-free [] = tt
  indents-free (b ∷ w) = (λ of_data. absurd of_data, tt)

  indents-blank : (w : Text) → list_all is_blank w ≡ true → after a (join (indent_pieces o w)) ≡ a
  indents-blank [] is = refl
  indents-blank (b ∷ w) is = ap (after a) (append_none (b ∷ w)) ∙ beginning-blanks a begins (b ∷ w) is

  indented-there : (x : Bool) (w : Text) → list_all is_blank w ≡ true → (ys : List Piece) → IsThere ys
      → IsThere ((if x then indent_pieces o w else []) ++ ys)
  indented-there true w blank ys there =
      after-there (indent_pieces o w) ys (indents-free w) (indents-blank w blank) there
  indented-there false w blank ys there = there

  -- An address that is put there stands safely, and the state stays in its quotes.
  pub put-url : (i : Option Text) (address : Text) (line : LineState) → list_all is_blank (unwrap_or i []) ≡ true
      → is_safe_url address ≡ true → list_all is_unmarked (escaped address) ≡ true
      → IsThere (pieces_put o i (escaped address) line)
  put-url None address line blank safe unmarked = pieces-there (escaped address) (url_at a begins address safe unmarked)
  put-url (Some w) address line blank safe unmarked =
      let t = escaped address in
      let kept = kept-text address (both (list_all (λ b. not (is_removed b)) address) _ safe).0 in
      indented-there (takes_indent line t) w blank (pieces_between o (indent_pieces o w) (lines_of t))
      (subst (λ (ls : List Text). IsThere (pieces_between o (indent_pieces o w) ls)) (sym (lines-one t kept))
      (between-there (indent_pieces o w) t (url_at a begins address safe unmarked)))

-- ---- what is known after an address

pub Covers-begins : (h a : Html) → begins_url h.tokenizer ≡ true → Covers h a → begins_url a.tokenizer ≡ true
Covers-begins h a begins c = by h.tokenizer h.context begins c
  where
    by : (t : Tokenizer) (n : Context) → begins_url t ≡ true → CoversAs t n a → begins_url a.tokenizer ≡ true
    by t n is = by_beginning (λ t. CoversAs t n a → begins_url a.tokenizer ≡ true)
        (λ double tag same. ap (λ (g : Html). begins_url g.tokenizer) same) t is

pub stays-here : (a : Html) → begins_url a.tokenizer ≡ true → StaysIn a a
stays-here a begins = beginning-after a begins [] refl

-- A state in the quotes of the beginning is covered by what is known after an address there.
pub address-covers : (h a g : Html) → begins_url h.tokenizer ≡ true → Covers h a → StaysIn a g
    → Covers (record h { tokenizer = after_address h.tokenizer }) g
address-covers h a g begins c stays = by h.tokenizer h.context begins c
  where
    same-context : (g : Html) (t : Tokenizer) (n : Context) → g.tokenizer ≡ t → g.context ≡ n → g ≡ html t n
    same-context g t n x y = ap (λ (z : Tokenizer). html z g.context) x ∙ ap (λ (z : Context). html t z) y

    by : (t : Tokenizer) (n : Context) → begins_url t ≡ true → CoversAs t n a → CoversAs (after_address t) n g
    by t n is = by_beginning (λ t. CoversAs t n a → CoversAs (after_address t) n g) (λ double tag same.
        let there : StaysIn (html (quoted double tag (followed [])) n) g = subst (λ (x : Html). StaysIn x g) same stays in
        inr (there.0.0, same-context g (quoted double tag there.0.0) n there.0.1 there.1)) t is
