-- Trees of sources are as compiled: html expressions have no bodies, and indentations are spaces and tabs.
use Rattle.std.proofs.Common.{ℕ, ◌==◌, Bool, true, false, ◌||◌, if◌then◌else◌, List, [], ◌∷◌, ◌++◌, map, length, Some, None, unwrap_or, refl, sym, subst}
use Rattle.std.specs.List.{AllByRecursion}
use Rattle.handlebars_base.specs.Bytes.{Text}
use Rattle.handlebars_lexer.specs.Options.{Options}
use Rattle.handlebars_lexer.specs.Tag.{Tag, escaped_tag, html_tag, block_tag, inverse_tag, chain_tag, close_tag, raw_tag, raw_close_tag, decorator_tag, decorator_block_tag, partial_tag, partial_block_tag, comment_tag}
use Rattle.handlebars_lexer.specs.Trim.{WhitespaceControl, has_element, trimmed}
use Rattle.handlebars_lexer.proofs.Blanks.{last_blanks-end}
use Rattle.handlebars_template.specs.Compile.{tag_piece, text_pieces, pieces_in, whole}
use Rattle.handlebars_template.specs.Tokens.{Token, text_token, tag_token, tokens_of, Reads, nothing_read, goes_on, AreTokens}
use Rattle.handlebars_template.specs.Nest.{BlockKind, helper_opening, raw_opening, decorator_opening, partial_opening, Opening, SourcePiece, leaf, opens, inverts, chains, closes, PositionedElement, Branch, inverse_of, block_by, Checks, Nests, nothing, a_leaf, a_block, Chains, no_more, a_branch, Inverts, no_inverse, an_inverse}
use Rattle.handlebars_template.specs.Position.{Position}
use Rattle.handlebars_template.specs.Tree.{elements_of, raw_string, Body}
use Rattle.handlebars_semantics.specs.Compiled.{IsBlank, AreAsCompiled, IsElementAsCompiled, IsBodyAsCompiled, CompilesSo}
use Rattle.handlebars_laws.proofs.Lists.{All-append, All-first, All-later}

-- ---- tokens: the blanks before a tag are spaces and tabs

abbrev HasBlanks : Token → Type 0
HasBlanks (text_token p e token unescaped n) = Unit {0}
HasBlanks (tag_token p token t e) = IsBlank e.blanks

Reads-blanks : {source : Text} {options : Options} {before : Text} {control : WhitespaceControl} {ps : List Token}
    → Reads source options before control ps → AllByRecursion HasBlanks ps
Reads-blanks nothing_read = tt
Reads-blanks (goes_on {ps = ps} r x) =
    All-append HasBlanks ps (tokens_of x) (Reads-blanks r) (tt, ((last_blanks-end x.text).blank, tt))

AreTokens-blanks : (source : Text) (options : Options) (ps : List Token) → AreTokens source options ps → AllByRecursion HasBlanks ps
AreTokens-blanks source options ps c = subst (AllByRecursion HasBlanks) (sym c.gives)
    (All-append HasBlanks c.tokens _ (Reads-blanks c.begins) (tt, tt))

-- ---- pieces: their elements are as compiled

abbrev IsPieceAsCompiled : SourcePiece → Type 0
IsPieceAsCompiled (leaf p e n r) = IsElementAsCompiled e
IsPieceAsCompiled (opens p o n r) = Unit {0}
IsPieceAsCompiled (inverts p) = Unit {0}
IsPieceAsCompiled (chains p o n r) = Unit {0}
IsPieceAsCompiled (closes p raw m) = Unit {0}

abbrev ArePiecesAsCompiled : List SourcePiece → Type 0
ArePiecesAsCompiled ps = AllByRecursion IsPieceAsCompiled ps

indent-blank : (b : Bool) (t : Text) → IsBlank t → IsBlank (unwrap_or (if b then None else Some t) [])
indent-blank true t e = refl
indent-blank false t e = e

tag_piece-compiled : (options : Options) (p : Position) (e : WhitespaceControl) (t : Tag) → IsBlank e.blanks
    → IsPieceAsCompiled (tag_piece options p e t)
tag_piece-compiled options p e (escaped_tag expression) h = (tt, tt)
tag_piece-compiled options p e (html_tag expression) h = refl
tag_piece-compiled options p e (block_tag expression) h = tt
tag_piece-compiled options p e inverse_tag h = tt
tag_piece-compiled options p e (chain_tag expression) h = tt
tag_piece-compiled options p e (close_tag n) h = tt
tag_piece-compiled options p e (raw_tag expression) h = tt
tag_piece-compiled options p e (raw_close_tag n) h = tt
tag_piece-compiled options p e (decorator_tag expression) h = (tt, refl)
tag_piece-compiled options p e (decorator_block_tag expression) h = tt
tag_piece-compiled options p e (partial_tag expression) h =
    (tt, indent-blank (options.prevent_indent || (e.left || (length e.blanks == 0))) e.blanks h)
tag_piece-compiled options p e (partial_block_tag expression) h = tt
tag_piece-compiled options p e (comment_tag t) h = tt

text-compiled : (b : Bool) (p : Position) (t : Text)
    → ArePiecesAsCompiled (if b then leaf p (raw_string t) 0 None ∷ [] else [])
text-compiled true p t = (tt, tt)
text-compiled false p t = tt

pieces_in-compiled : (options : Options) (ps : List Token) → AllByRecursion HasBlanks ps
    → ArePiecesAsCompiled (pieces_in options ps)
pieces_in-compiled options [] h = tt
pieces_in-compiled options (text_token p e token unescaped n ∷ ps) h =
    All-append IsPieceAsCompiled (text_pieces options p e token unescaped n) (pieces_in options ps)
    (text-compiled (has_element e token) p (trimmed options e unescaped n)) (pieces_in-compiled options ps h.1)
pieces_in-compiled options (tag_token p token t e ∷ ps) h =
    (tag_piece-compiled options p e t h.0, pieces_in-compiled options ps h.1)

-- ---- nests

abbrev ArePositionedAsCompiled : List PositionedElement → Type 0
ArePositionedAsCompiled es = AllByRecursion (λ e. IsElementAsCompiled e.element) es

abbrev AreBranchesAsCompiled : List Branch → Type 0
AreBranchesAsCompiled bs = AllByRecursion (λ b. ArePositionedAsCompiled b.elements) bs

elements_of-compiled : (es : List PositionedElement) → ArePositionedAsCompiled es
    → AreAsCompiled (elements_of (map (λ e. e.element) es))
elements_of-compiled [] h = tt
elements_of-compiled (e ∷ es) h = (h.0, elements_of-compiled es h.1)

inverse_of-compiled : (bs : List Branch) (last : Body) → AreBranchesAsCompiled bs → IsBodyAsCompiled last
    → IsBodyAsCompiled (inverse_of bs last)
inverse_of-compiled [] last h k = k
inverse_of-compiled (b ∷ bs) last h k =
    ((elements_of-compiled b.elements h.0, inverse_of-compiled bs last h.1 k), tt)

block_by-compiled : (kind : BlockKind) (o : Opening) (first : List PositionedElement) (bs : List Branch) (last : Body)
    → ArePositionedAsCompiled first → AreBranchesAsCompiled bs → IsBodyAsCompiled last
    → IsElementAsCompiled (block_by kind o first bs last)
block_by-compiled helper_opening o first bs last h k l = (elements_of-compiled first h, inverse_of-compiled bs last k l)
block_by-compiled raw_opening o first bs last h k l = (elements_of-compiled first h, inverse_of-compiled bs last k l)
block_by-compiled decorator_opening o first bs last h k l = (elements_of-compiled first h, refl)
block_by-compiled partial_opening o first bs last h k l = (elements_of-compiled first h, refl)

mutual
  Nests-compiled : {t : Checks} {d : ℕ} {ps : List SourcePiece} {es : List PositionedElement} → Nests t d ps es
      → ArePiecesAsCompiled ps → ArePositionedAsCompiled es
  Nests-compiled nothing h = tt
  Nests-compiled (a_leaf p e n r le has more) h = (h.0, Nests-compiled more h.1)
  Nests-compiled (a_block {bs = bs} {cs = cs} {ls = ls} {ps = ps} {first = first} {branches = branches} {last = last}
      p q o n r raw m le has ends closed body_nests its_chains its_inverse more) h =
      let after = All-later IsPieceAsCompiled bs (cs ++ (ls ++ (closes q raw m ∷ ps))) h.1 in
      let later = All-later IsPieceAsCompiled cs (ls ++ (closes q raw m ∷ ps)) after in
      let rest = All-later IsPieceAsCompiled ls (closes q raw m ∷ ps) later in (
        block_by-compiled o.kind o first branches last
            (Nests-compiled body_nests (All-first IsPieceAsCompiled bs (cs ++ (ls ++ (closes q raw m ∷ ps))) h.1))
            (Chains-compiled its_chains (All-first IsPieceAsCompiled cs (ls ++ (closes q raw m ∷ ps)) after))
            (Inverts-compiled its_inverse (All-first IsPieceAsCompiled ls (closes q raw m ∷ ps) later)),
        Nests-compiled more rest.1,
      )

  Chains-compiled : {t : Checks} {k : BlockKind} {d e : ℕ} {ps : List SourcePiece} {bs : List Branch} → Chains t k d ps bs e
      → ArePiecesAsCompiled ps → AreBranchesAsCompiled bs
  Chains-compiled no_more h = tt
  Chains-compiled (a_branch {bs = bs} {cs = cs} p o n r admits le has body_nests more) h = (
    Nests-compiled body_nests (All-first IsPieceAsCompiled bs cs h.1),
    Chains-compiled more (All-later IsPieceAsCompiled bs cs h.1),
  )

  Inverts-compiled : {t : Checks} {k : BlockKind} {d : ℕ} {ps : List SourcePiece} {last : Body} → Inverts t k d ps last
      → ArePiecesAsCompiled ps → IsBodyAsCompiled last
  Inverts-compiled no_inverse h = tt
  Inverts-compiled (an_inverse {es = es} p admits nests) h = elements_of-compiled es (Nests-compiled nests h.1)

pub compiles_so : CompilesSo
compiles_so source options t (whole {ps = ps} {es = es} tokenized nests) =
    elements_of-compiled es (Nests-compiled nests (pieces_in-compiled options ps (AreTokens-blanks source options ps tokenized)))
