-- The helper that returns an address only if it runs no script.
use Rattle.std.specs.Prelude.{◌≡◌, ℕ, Bool, true, not, ◌&&◌, ◌||◌, ◌==◌, nat_le, if◌then◌else◌, [], ◌∷◌, map, take, drop, None, codes}
use Rattle.std.specs.Char.{to_ascii_lowercase}
use Rattle.std.specs.List.{list_all, prefix_len}
use Rattle.std.specs.Str.{bytes_eq}
use Rattle.serde_json.specs.Data.{string}
use Rattle.handlebars_base.specs.Answers.{Answer, gives}
use Rattle.handlebars_base.specs.Bytes.{Text, tab, newline, carriage_return, space, slash, colon}
use Rattle.handlebars_base.specs.Values.{rendered}
use Rattle.handlebars_helpers.specs.CallView.{CallView}
use Rattle.handlebars_helpers.specs.Params.{by_value}
use Rattle.handlebars_helpers.specs.UserHelper.{HelperQuestion, Offer, not_offered, offers_missing, offers, UserHelper, GivesValues}

-- ---- addresses

-- URL parsers remove these wherever they stand (URL 4.4, basic URL parser: ASCII tabs and newlines).
abbrev pub is_removed : ℕ → Bool
is_removed b = (b == tab) || ((b == newline) || (b == carriage_return))

-- URL parsers remove these at the beginning (URL 4.4: C0 controls and spaces).
abbrev pub is_leading : ℕ → Bool
is_leading b = nat_le b space

-- A scheme ends at a colon. A slash, a question mark or a number sign before that says that there is none.
abbrev pub may_be_of_scheme : ℕ → Bool
may_be_of_scheme b = not ((b == colon) || ((b == slash) || ((b == 63) || (b == 35))))

-- The two are one scheme, whatever the case of their letters.
abbrev pub is_scheme : Text → Text → Bool
is_scheme s name = bytes_eq (map to_ascii_lowercase name) (map to_ascii_lowercase s)

-- An address of one of these schemes never runs a script.
abbrev pub is_safe_scheme : Text → Bool
is_safe_scheme s =
    is_scheme s (codes "http") || (is_scheme s (codes "https") || (is_scheme s (codes "mailto") || (
    is_scheme s (codes "tel") || (is_scheme s (codes "ftp") || is_scheme s (codes "sms")))))

-- This text, if a colon follows, is the scheme of an address. Without one the address is relative.
abbrev pub is_safe_before : Text → Text → Bool
is_safe_before s [] = true
is_safe_before s (b ∷ t) = not (b == colon) || is_safe_scheme s

abbrev pub is_safe_begun : Text → Bool
is_safe_begun t = is_safe_before (take (prefix_len may_be_of_scheme t) t) (drop (prefix_len may_be_of_scheme t) t)

-- The address is relative or of a safe scheme, and has none of the bytes that URL parsers would remove within it.
abbrev pub is_safe_url : Text → Bool
is_safe_url t = list_all (λ b. not (is_removed b)) t && is_safe_begun (drop (prefix_len is_leading t) t)

-- the address, if it is safe, and otherwise that of the page itself
abbrev pub safe_url : Text → Text
safe_url t = if is_safe_url t then t else codes "#"

-- ---- the helper

-- It offers the text of its first parameter, if that is a safe address.
abbrev pub offer_of_call : Bool → CallView → Answer Offer
offer_of_call strict v = by_value strict (codes "SafeUrl") 0 v (λ d. gives (offers (string (safe_url (rendered d)))))

-- It has no steps.
abbrev pub safe_url_helper : UserHelper
safe_url_helper = record {
  has_steps = λ q a. a ≡ gives None;
  has_offer = λ q a. a ≡ offer_of_call q.strict q.view.call;
}

-- ---- helpers like it

-- A missing value counts as null, which is written as the empty text. That is a safe address.
abbrev pub IsSafeOffer : Offer → Type 0
IsSafeOffer not_offered = Unit {0}
IsSafeOffer offers_missing = Unit {0}
IsSafeOffer (offers d) = is_safe_url (rendered d) ≡ true

-- A user-defined helper gives values alone, and each that it offers is written as a safe address.
pub record GivesUrls (helper : UserHelper) : Type 0 where
  pub values : GivesValues helper
  pub urls : (q : HelperQuestion) (o : Offer) → helper.has_offer q (gives o) → IsSafeOffer o
