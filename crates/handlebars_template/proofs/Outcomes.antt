-- A source compiles to what running the functions that read and nest it returns.
use Rattle.std.proofs.Common.{◌≡◌, Bool, ℕ, zero, suc, ◌-◌, true, Option, Some, None, List, [], ◌∷◌, ◌++◌, length, take, refl, sym, ap, ◌∙◌, subst, append_assoc}
use Rattle.std.specs.Str.{bytes_eq}
use Rattle.std.proofs.lemmas.List.{append-nil}
use Rattle.std.proofs.lemmas.Option.{same_Some, none-some}
use Rattle.std.proofs.lemmas.Slice.Eq.{bytes_eq-Decides}
use Rattle.handlebars_base.specs.Bytes.{Text}
use Rattle.handlebars_base.specs.Optional.{◌>>=◌}
use Rattle.handlebars_base.proofs.OptionBinds.{bind_some}
use Rattle.handlebars_base.proofs.Ends.{regroup_four}
use Rattle.handlebars_lexer.specs.Text.{two_braces, braces, IsText}
use Rattle.handlebars_lexer.specs.Tag.{NoTag}
use Rattle.handlebars_lexer.specs.Trim.{WhitespaceControl, no_control, control_of, braces_after}
use Rattle.handlebars_lexer.specs.Options.{Options}
use Rattle.handlebars_template.specs.Position.{position}
use Rattle.handlebars_template.specs.Nest.{SourcePiece, NestingError, not_closed, PositionedElement, Checks, syntax_alone, names_and_literals, Nests, nothing, none_open, Rejects, left_open as still_open}
use Rattle.handlebars_template.specs.Machine.{BlockSoFar, Moved, goes, stops}
use Rattle.handlebars_template.proofs.Machine.{apply}
use Rattle.handlebars_template.specs.Tokens.{Token, text_token, tag_token, may_follow, TextAndTag, Reads, nothing_read, goes_on, AreTokens}
use Rattle.handlebars_template.specs.Compile.{pieces_in, tree_of, refusal_for, Compilation, compiled, rejected, unreadable_tag, Compiles, whole, no_tag, misplaced, left_open, late}
use Rattle.handlebars_template.proofs.NestsOpen.{OpensSoFar, no_block}
use Rattle.handlebars_template.proofs.NestsSteps.{OpensSoFar-opens, OpensSoFar-step, Rejects-step}
use Rattle.handlebars_template.proofs.NestsRuns.{run_pieces}
use Rattle.handlebars_template.proofs.Running.{TagFound, tag_at, tag_at-is, parsed_text, FoundText, parsed_text-is, guarded, guarded_some}

-- ---- nesting

abbrev Ran : Checks → List SourcePiece → Moved → Type 0
Ran t ps (goes d fs es) = OpensSoFar t d ps fs es
Ran t ps (stops f) = Rejects t ps f

run_pieces-goes : (t : Checks) (x : SourcePiece) (xs : List SourcePiece) (d e : ℕ) (fs gs : List BlockSoFar) (es hs : List PositionedElement) → apply t x d fs es ≡ goes e gs hs → run_pieces t (x ∷ xs) d fs es ≡ run_pieces t xs e gs hs
run_pieces-goes t x xs d e fs gs es hs is = rw is refl

run_pieces-stops : (t : Checks) (x : SourcePiece) (xs : List SourcePiece) (d : ℕ) (fs : List BlockSoFar) (es : List PositionedElement) (f : NestingError) → apply t x d fs es ≡ stops f → run_pieces t (x ∷ xs) d fs es ≡ stops f
run_pieces-stops t x xs d fs es f is = rw is refl

run_pieces-ran : (t : Checks) (xs ps : List SourcePiece) (d : ℕ) (fs : List BlockSoFar) (es : List PositionedElement) → OpensSoFar t d ps fs es → Ran t (ps ++ xs) (run_pieces t xs d fs es)
run_pieces-ran t [] ps d fs es o = subst (λ (z : List SourcePiece). OpensSoFar t d z fs es) (sym (append-nil ps)) o
run_pieces-ran t (x ∷ xs) ps d fs es o = on (apply t x d fs es) refl (run_pieces-ran t xs (ps ++ (x ∷ [])))
  where
    on : (m : Moved) → apply t x d fs es ≡ m
        → ((e : ℕ) (gs : List BlockSoFar) (hs : List PositionedElement) → OpensSoFar t e (ps ++ (x ∷ [])) gs hs → Ran t ((ps ++ (x ∷ [])) ++ xs) (run_pieces t xs e gs hs))
        → Ran t (ps ++ (x ∷ xs)) (run_pieces t (x ∷ xs) d fs es)
    on (goes e gs hs) is again =
        subst (Ran t (ps ++ (x ∷ xs))) (sym (run_pieces-goes t x xs d e fs gs es hs is))
        (subst (λ (z : List SourcePiece). Ran t z (run_pieces t xs e gs hs)) (append_assoc ps (x ∷ []) xs) (again e gs hs (OpensSoFar-step x o is)))
    on (stops f) is again = subst (Ran t (ps ++ (x ∷ xs))) (sym (run_pieces-stops t x xs d fs es f is)) (Rejects-step x xs o is)

ran : (t : Checks) (xs : List SourcePiece) → Ran t xs (run_pieces t xs 0 [] [])
ran t xs = run_pieces-ran t xs [] 0 [] [] (no_block nothing)

-- ---- a reading

-- a text, the spelling of a tag, and the tag
abbrev TextThenTag : Type 0
TextThenTag = Text × Text × TagFound

abbrev token_before : Text → Text → Text
token_before t rest = take (length t - length rest) t

abbrev next_with : WhitespaceControl → Text → Text → TagFound → Option TextThenTag
next_with e text left f = guarded (may_follow e f.tag) (text, token_before left f.rest, f)

abbrev next_at : Bool → WhitespaceControl → Text → Option TextThenTag
next_at sections e left = parsed_text (braces_after e) left >>= λ x. tag_at sections x.1 >>= λ f. guarded (bytes_eq (token_before x.1 f.rest ++ f.rest) x.1) f >>= next_with e x.0 x.1

-- the state of a reading, with what is left after it
pub record ReadingState : Type 0 where
  pub before : Text
  pub control : WhitespaceControl
  pub tokens : List Token
  pub left : Text

abbrev scan_point_after : ReadingState → TextThenTag → ReadingState
scan_point_after s x =
    let control = control_of s.before x.0 x.2.tag x.2.tildes x.2.rest in
    record {
      before = s.before ++ (x.0 ++ x.1);
      control = control;
      tokens = s.tokens ++ (text_token (position s.before) s.control x.0 x.0 control ∷ tag_token (position (s.before ++ x.0)) x.1 x.2.tag control ∷ []);
      left = x.2.rest;
    }

-- the state so many tags later
abbrev scan_point_at : Bool → ℕ → ReadingState → Option ReadingState
scan_point_at sections zero s = Some s
scan_point_at sections (suc n) s = next_at sections s.control s.left >>= λ x. scan_point_at sections n (scan_point_after s x)

pub record IsAt (source : Text) (options : Options) (s : ReadingState) : Type 0 where
  pub begins : Reads source options s.before s.control s.tokens
  pub whole : source ≡ s.before ++ s.left

next_at-is : (source : Text) (options : Options) (s : ReadingState) (x : TextThenTag) → next_at options.sections s.control s.left ≡ Some x → IsAt source options s → IsAt source options (scan_point_after s x)
next_at-is source options s x e h =
    let words = bind_some (parsed_text (braces_after s.control) s.left) _ x e in
    let tag = bind_some (tag_at options.sections words.0.1) _ x words.2 in
    let same = bind_some (guarded (bytes_eq (token_before words.0.1 tag.0.rest ++ tag.0.rest) words.0.1) tag.0) _ x tag.2 in
    let f = same.0 in
    let tokenized = guarded_some (bytes_eq (token_before words.0.1 tag.0.rest ++ tag.0.rest) words.0.1) tag.0 f same.1 in
    let fair = guarded_some (may_follow s.control f.tag) (words.0.0, token_before words.0.1 f.rest, f) x same.2 in
    let token : Text = token_before words.0.1 f.rest in
    let joins : token ++ f.rest ≡ words.0.1 = subst (λ (z : TagFound). token_before words.0.1 z.rest ++ z.rest ≡ words.0.1) tokenized.1 ((bytes_eq-Decides (token_before words.0.1 tag.0.rest ++ tag.0.rest) words.0.1).0 tokenized.0) in
    let w = parsed_text-is (braces_after s.control) s.left words.0 words.1 in
    let is = tag_at-is options.sections token f.rest f (ap (tag_at options.sections) joins ∙ tag.1 ∙ ap (λ (z : TagFound). Some z) tokenized.1) refl in
    let all : source ≡ s.before ++ (words.0.0 ++ (token ++ f.rest)) = h.whole ∙ ap (λ (z : Text). s.before ++ z) (w.whole ∙ ap (λ (z : Text). words.0.0 ++ z) (sym joins)) in
    let next : TextAndTag source options s.before s.control = record {
      text = words.0.0;
      unescaped = words.0.0;
      token = token;
      tag = f.tag;
      tildes = f.tildes;
      rest = f.rest;
      whole = all;
      is_text = subst (λ (z : Text). IsText (braces_after s.control) z words.0.0 words.0.0) (sym joins) w.is_text;
      is_tag = is;
      may_follow = fair.0;
    } in
    subst (λ (z : TextThenTag). IsAt source options (scan_point_after s z)) fair.1 (record {
      begins = goes_on h.begins next;
      whole = all ∙ regroup_four s.before words.0.0 token f.rest;
    })

scan_point_at-is : (n : ℕ) (source : Text) (options : Options) (s r : ReadingState) → scan_point_at options.sections n s ≡ Some r → IsAt source options s → IsAt source options r
scan_point_at-is zero source options s r e h = subst (IsAt source options) (same_Some s r e) h
scan_point_at-is (suc n) source options s r e h =
    let x = bind_some (next_at options.sections s.control s.left) _ r e in
    scan_point_at-is n source options (scan_point_after s x.0) r x.2 (next_at-is source options s x.0 x.1 h)

abbrev pub first_scan_point : Text → ReadingState
first_scan_point source = record { before = []; control = no_control; tokens = []; left = source }

-- ---- the outcome

abbrev verdict : Options → Moved → Moved → Option Compilation
verdict options (stops f) strict = None
verdict options (goes d (f ∷ fs) es) strict = Some (rejected (refusal_for options (not_closed f.position)))
verdict options (goes d [] es) (stops f) = Some (rejected (refusal_for options f))
verdict options (goes d [] es) (goes e [] xs) = Some (compiled (tree_of options xs))
verdict options (goes d [] es) (goes e (f ∷ fs) xs) = None

abbrev of_whole : Options → ReadingState → Text × Text → Option Compilation
of_whole options r (text, (b ∷ t)) = None
of_whole options r (text, []) =
    let ps = pieces_in options (r.tokens ++ (text_token (position r.before) r.control text text no_control ∷ [])) in
    verdict options (run_pieces syntax_alone ps 0 [] []) (run_pieces names_and_literals ps 0 [] [])

abbrev of_beginning : Options → ReadingState → Moved → Option Compilation
of_beginning options r (stops f) = Some (rejected (refusal_for options f))
of_beginning options r (goes d fs es) = parsed_text (braces_after r.control) r.left >>= of_whole options r

abbrev pub compilation_from : Options → ℕ → ReadingState → Option Compilation
compilation_from options n s = scan_point_at options.sections n s >>= λ r. of_beginning options r (run_pieces syntax_alone (pieces_in options r.tokens) 0 [] [])

nests_in : {t : Checks} {d : ℕ} {ps : List SourcePiece} {es : List PositionedElement} → OpensSoFar t d ps [] es → Nests t 0 ps es
nests_in (no_block h) = h

verdict-is : (options : Options) (source : Text) (ps : List Token) (m k : Moved) (c : Compilation) → AreTokens source options ps → Ran syntax_alone (pieces_in options ps) m → Ran names_and_literals (pieces_in options ps) k
    → verdict options m k ≡ Some c → Compiles source options c
verdict-is options source ps (stops f) k c tokenized loose strict e = absurd (none-some c e)
verdict-is options source ps (goes d (f ∷ fs) es) k c tokenized loose strict e =
    subst (Compiles source options) (same_Some (rejected (refusal_for options (not_closed f.position))) c e) (left_open tokenized (still_open (OpensSoFar-opens loose)))
verdict-is options source ps (goes d [] es) (stops f) c tokenized loose strict e = subst (Compiles source options) (same_Some (rejected (refusal_for options f)) c e) (late tokenized (nests_in loose) strict)
verdict-is options source ps (goes d [] es) (goes e' [] xs) c tokenized loose strict e = subst (Compiles source options) (same_Some (compiled (tree_of options xs)) c e) (whole tokenized (nests_in strict))
verdict-is options source ps (goes d [] es) (goes e' (f ∷ fs) xs) c tokenized loose strict e = absurd (none-some c e)

of_whole-is : (options : Options) (source : Text) (r : ReadingState) (q : Text × Text) (c : Compilation) → IsAt source options r → FoundText (braces_after r.control) r.left q → of_whole options r q ≡ Some c → Compiles source options c
of_whole-is options source r (text, (b ∷ t)) c h words e = absurd (none-some c e)
of_whole-is options source r (text, []) c h words e =
    let ps : List Token = r.tokens ++ (text_token (position r.before) r.control text text no_control ∷ []) in
    verdict-is options source ps (run_pieces syntax_alone (pieces_in options ps) 0 [] []) (run_pieces names_and_literals (pieces_in options ps) 0 [] []) c (record {
      before = r.before;
      control = r.control;
      tokens = r.tokens;
      begins = h.begins;
      text = text;
      unescaped = text;
      whole = h.whole ∙ ap (λ (z : Text). r.before ++ z) (words.whole ∙ append-nil text);
      is_text = words.is_text;
      gives = refl;
    }) (ran syntax_alone (pieces_in options ps)) (ran names_and_literals (pieces_in options ps)) e

of_beginning-is : (options : Options) (source : Text) (r : ReadingState) (m : Moved) (c : Compilation) → IsAt source options r → Ran syntax_alone (pieces_in options r.tokens) m → of_beginning options r m ≡ Some c → Compiles source options c
of_beginning-is options source r (stops f) c h loose e = subst (Compiles source options) (same_Some (rejected (refusal_for options f)) c e) (misplaced h.begins loose)
of_beginning-is options source r (goes d fs es) c h loose e =
    let q = bind_some (parsed_text (braces_after r.control) r.left) (of_whole options r) c e in
    of_whole-is options source r q.0 c h (parsed_text-is (braces_after r.control) r.left q.0 q.1) q.2

-- from any state, so many tags later
pub compilation_from-compiles : (options : Options) (source : Text) (n : ℕ) (s : ReadingState) (c : Compilation) → IsAt source options s → compilation_from options n s ≡ Some c → Compiles source options c
compilation_from-compiles options source n s c h e =
    let r = bind_some (scan_point_at options.sections n s) _ c e in
    of_beginning-is options source r.0 (run_pieces syntax_alone (pieces_in options r.0.tokens) 0 [] []) c (scan_point_at-is n source options s r.0 r.1 h) (ran syntax_alone (pieces_in options r.0.tokens)) r.2

abbrev pub compilation_of : Options → ℕ → Text → Option Compilation
compilation_of options n source = compilation_from options n (first_scan_point source)

pub compilation_of-compiles : (options : Options) (n : ℕ) (source : Text) (c : Compilation) → compilation_of options n source ≡ Some c → Compiles source options c
compilation_of-compiles options n source c e = compilation_from-compiles options source n (first_scan_point source) c (record { begins = nothing_read; whole = refl }) e

-- ---- states that are given

-- a text and a tag at the start of the source
pub first_tag : (options : Options) (text unescaped token rest : Text) (f : TagFound) → IsText two_braces (token ++ rest) text unescaped → tag_at options.sections (token ++ rest) ≡ Some f → f.rest ≡ rest
    → IsAt (text ++ (token ++ rest)) options (record {
      before = text ++ token;
      control = control_of [] text f.tag f.tildes rest;
      tokens = text_token (position []) no_control text unescaped (control_of [] text f.tag f.tildes rest) ∷ tag_token (position text) token f.tag (control_of [] text f.tag f.tildes rest) ∷ [];
      left = rest;
    })
first_tag options text unescaped token rest f words e is = record {
  begins = goes_on nothing_read (record {
    text = text;
    unescaped = unescaped;
    token = token;
    tag = f.tag;
    tildes = f.tildes;
    rest = rest;
    whole = refl;
    is_text = words;
    is_tag = tag_at-is options.sections token rest f e is;
    may_follow = refl;
  });
  whole = sym (append_assoc text token rest);
}

-- a text at the start of the source, and braces with which no tag begins
pub first_unreadable : (options : Options) (text left : Text) → IsText two_braces left text text → braces two_braces left ≡ true → NoTag options.sections left
    → Compiles (text ++ left) options (rejected (unreadable_tag options (position text)))
first_unreadable options text left words marks none = no_tag (record {
  before = [];
  control = no_control;
  tokens = [];
  begins = nothing_read;
  depth = 0;
  open_blocks = [];
  nests = none_open nothing;
  text = text;
  unescaped = text;
  left = left;
  whole = refl;
  is_text = words;
  marks = marks;
  none = λ token rest t tildes is tag may. none token rest t tildes is tag;
  there = refl;
})
