-- How texts and tags nest: the pieces along a source, and the elements that they make.
use Rattle.std.specs.Prelude.{◌≡◌, ℕ, suc, ◌+◌, ◌<◌, ◌≤◌, Bool, true, false, List, [], ◌∷◌, ◌++◌, map, Option, None, Some, is_some, not, ◌==◌, ◌&&◌, ◌||◌, length}
use Rattle.std.specs.Str.{bytes_eq}
use Rattle.handlebars_base.specs.Bytes.{Text}
use Rattle.handlebars_template.specs.Position.{Position}
use Rattle.handlebars_template.specs.Tree.{tree, no_elements, element, elements_of, Element, helper_block, decorator_block, partial_block, Call, call, Decorator, decorator, Args, Param, Binding, Body, no_body, body, bodies}
use Rattle.handlebars_template.specs.Calls.{max_nesting}

-- ---- the pieces along a source

-- What a tag opens: a helper block, a raw block, a decorator block or a partial block.
pub data BlockKind : Type 0 where
  helper_opening : BlockKind
  raw_opening : BlockKind
  decorator_opening : BlockKind
  partial_opening : BlockKind

-- whether the block may have chained inverses and an inverse; a raw block may have only its end
abbrev pub admits_inverse : BlockKind → Bool
admits_inverse helper_opening = true
admits_inverse k = false

-- whether a close without a name ends the block
abbrev pub admits_no_name : BlockKind → Bool
admits_no_name helper_opening = false
admits_no_name raw_opening = false
admits_no_name decorator_opening = true
admits_no_name partial_opening = true

-- whether a close is of the block's kind: of a raw block or of another
abbrev pub has_close : BlockKind → Bool → Bool
has_close raw_opening raw = raw
has_close k raw = not raw

abbrev pub is_nameless : Text → Bool
is_nameless m = length m == 0

-- whether a close of this kind, with this name or with none, may end the block
abbrev pub may_end : BlockKind → Bool → Text → Bool
may_end k raw m = has_close k raw && (admits_no_name k || not (is_nameless m))

-- The content of a block's opening tag: what it opens, its name, the name that closes it, its arguments, the names that it
-- binds, and whether indentation is written before its output. A chained inverse has the same content.
pub record Opening : Type 0 where
  pub kind : BlockKind
  pub name : Param
  pub closing : Text
  pub arguments : Args
  pub binding : Binding
  pub indent : Bool

-- An element with its position; a block's opening tag; an inverse; a chained inverse; a close with its name, of a raw block
-- or not. The number is how many parentheses and brackets are open at once in a tag. The text is the first of its literals
-- that is rejected, if there is one.
pub data SourcePiece : Type 0 where
  leaf : Position → Element → ℕ → Option Text → SourcePiece
  opens : Position → Opening → ℕ → Option Text → SourcePiece
  inverts : Position → SourcePiece
  chains : Position → Opening → ℕ → Option Text → SourcePiece
  closes : Position → Bool → Text → SourcePiece

abbrev pub position_in : SourcePiece → Position
position_in (leaf p e n r) = p
position_in (opens p o n r) = p
position_in (inverts p) = p
position_in (chains p o n r) = p
position_in (closes p raw m) = p

-- the first rejected literal of a piece, if it has one
abbrev pub rejected_in : SourcePiece → Option Text
rejected_in (leaf p e n r) = r
rejected_in (opens p o n r) = r
rejected_in (inverts p) = None
rejected_in (chains p o n r) = r
rejected_in (closes p raw m) = None

-- Why pieces don't nest, and where. A close by another name comes with the kind of block that it closes, the name that would
-- close that block, and the name of the close. A literal is rejected without a position.
pub data NestingError : Type 0 where
  unexpected : Position → NestingError
  too_deep : Position → NestingError
  not_closed : Position → NestingError
  mismatched : BlockKind → Text → Text → Position → NestingError
  no_value : Text → NestingError

-- ---- blocks

pub record PositionedElement : Type 0 where
  pub position : Position
  pub element : Element

-- the body that these elements are
abbrev pub body_with : List PositionedElement → Body
body_with es = body (tree None (elements_of (map (λ e. e.element) es)) (map (λ e. e.position) es))

-- a block, or a chained inverse, from the content of its tag, the elements of its body, and its inverse
abbrev pub block_call : Opening → List PositionedElement → Body → Bool → Call
block_call o es inverse chained =
    call o.name o.arguments o.binding (bodies (body_with es) inverse)
    (record { block = true; chain = chained; indent_before_write = o.indent })

-- a chained inverse: the content of its tag, and the elements after it
pub record Branch : Type 0 where
  pub opening : Opening
  pub elements : List PositionedElement

-- A chain of branches is the first of them, with the rest of the chain as its inverse. A branch in a chain has no position.
abbrev pub inverse_of : List Branch → Body → Body
inverse_of [] last = last
inverse_of (b ∷ bs) last =
    body (tree None (element (helper_block (block_call b.opening b.elements (inverse_of bs last) true)) no_elements) [])

abbrev pub is_chain : List Branch → Bool
is_chain [] = false
is_chain (b ∷ bs) = true

-- the call that a helper block or a raw block is: the later branches of a chain are in its inverse
abbrev pub helper_call : Opening → List PositionedElement → List Branch → Body → Call
helper_call o first branches last = block_call o first (inverse_of branches last) (is_chain branches)

-- A decorator, or a partial with a block, from the content of its tag, and its body. Only a partial without a block has an
-- indentation.
abbrev pub decorator_with : Opening → Body → Decorator
decorator_with o b = decorator o.name o.arguments b (record { indent = None; indent_before_write = o.indent })

-- The block of a decorator or of a partial has one body.
abbrev pub block_by : BlockKind → Opening → List PositionedElement → List Branch → Body → Element
block_by helper_opening o first branches last = helper_block (helper_call o first branches last)
block_by raw_opening o first branches last = helper_block (helper_call o first branches last)
block_by decorator_opening o first branches last = decorator_block (decorator_with o (body_with first))
block_by partial_opening o first branches last = partial_block (decorator_with o (body_with first))

abbrev pub block_of : Opening → List PositionedElement → List Branch → Body → Element
block_of o first branches last = block_by o.kind o first branches last

-- ---- what is checked

-- the syntax alone, or the closing names and the literals too
pub data Checks : Type 0 where
  syntax_alone : Checks
  names_and_literals : Checks

-- Whether a close by the second text closes a block that the first text would close. A close without a name does, where it
-- may end the block.
abbrev pub may_close : Checks → Text → Text → Bool
may_close syntax_alone n m = true
may_close names_and_literals n m = is_nameless m || bytes_eq n m

-- whether the literals of a tag have values, given its first rejected literal, if it has one
abbrev pub has_values : Checks → Option Text → Bool
has_values syntax_alone r = true
has_values names_and_literals r = not (is_some r)

-- ---- nests

-- Nests t d ps es: with d blocks and chained inverses open around them, the pieces ps are the elements es.
mutual
  pub data Nests (t : Checks) : ℕ → List SourcePiece → List PositionedElement → Type 0 where
    nothing : {d : ℕ} → Nests t d [] []
    a_leaf : {d : ℕ} {ps : List SourcePiece} {es : List PositionedElement} (p : Position) (e : Element) (n : ℕ) (r : Option Text)
        → d + n ≤ max_nesting → has_values t r ≡ true → Nests t d ps es
        → Nests t d (leaf p e n r ∷ ps) (record { position = p; element = e } ∷ es)
    -- an opening tag, the first body, chained inverses, an inverse or none, and the close
    a_block : {d e : ℕ} {bs cs ls ps : List SourcePiece} {first es : List PositionedElement} {branches : List Branch} {last : Body}
        (p q : Position) (o : Opening) (n : ℕ) (r : Option Text) (raw : Bool) (m : Text)
        → d + suc n ≤ max_nesting → has_values t r ≡ true → may_end o.kind raw m ≡ true → may_close t o.closing m ≡ true
        → Nests t (suc d) bs first → Chains t o.kind (suc d) cs branches e → Inverts t o.kind e ls last
        → Nests t d ps es
        → Nests t d (opens p o n r ∷ (bs ++ (cs ++ (ls ++ (closes q raw m ∷ ps)))))
        (record { position = p; element = block_of o first branches last } ∷ es)

  -- chained inverses in a block of this kind, and how much is open after them
  pub data Chains (t : Checks) : BlockKind → ℕ → List SourcePiece → List Branch → ℕ → Type 0 where
    no_more : {k : BlockKind} {d : ℕ} → Chains t k d [] [] d
    a_branch : {k : BlockKind} {d e : ℕ} {bs cs : List SourcePiece} {es : List PositionedElement} {branches : List Branch}
        (p : Position) (o : Opening) (n : ℕ) (r : Option Text)
        → admits_inverse k ≡ true → d + suc n ≤ max_nesting → has_values t r ≡ true
        → Nests t (suc d) bs es → Chains t k (suc d) cs branches e
        → Chains t k d (chains p o n r ∷ (bs ++ cs)) (record { opening = o; elements = es } ∷ branches) e

  -- an inverse in a block of this kind, or none
  pub data Inverts (t : Checks) : BlockKind → ℕ → List SourcePiece → Body → Type 0 where
    no_inverse : {k : BlockKind} {d : ℕ} → Inverts t k d [] no_body
    an_inverse : {k : BlockKind} {d : ℕ} {bs : List SourcePiece} {es : List PositionedElement} (p : Position)
        → admits_inverse k ≡ true → Nests t d bs es → Inverts t k d (inverts p ∷ bs) (body_with es)

-- ---- blocks that are open

-- an open block: its position, the content of its tag, and whether its inverse has begun
pub record OpenBlock : Type 0 where
  pub position : Position
  pub opening : Opening
  pub inverted : Bool

-- BeginsBlock t o f qs d: with o open around it, the pieces qs begin the block f and leave it open, with d open then.
pub data BeginsBlock (t : Checks) : ℕ → OpenBlock → List SourcePiece → ℕ → Type 0 where
  in_a_body : {o d : ℕ} {bs cs : List SourcePiece} {first : List PositionedElement} {branches : List Branch}
      (p : Position) (x : Opening) (n : ℕ) (r : Option Text)
      → o + suc n ≤ max_nesting → has_values t r ≡ true → Nests t (suc o) bs first → Chains t x.kind (suc o) cs branches d
      → BeginsBlock t o (record { position = p; opening = x; inverted = false }) (opens p x n r ∷ (bs ++ cs)) d
  in_its_inverse : {o d : ℕ} {bs cs gs : List SourcePiece} {first es : List PositionedElement} {branches : List Branch}
      (p q : Position) (x : Opening) (n : ℕ) (r : Option Text)
      → o + suc n ≤ max_nesting → has_values t r ≡ true → Nests t (suc o) bs first → Chains t x.kind (suc o) cs branches d
      → admits_inverse x.kind ≡ true → Nests t d gs es
      → BeginsBlock t o (record { position = p; opening = x; inverted = true })
      (opens p x n r ∷ (bs ++ (cs ++ (inverts q ∷ gs)))) d

-- Opens t d ps fs: the pieces ps leave the blocks fs open, the innermost first, with d open then.
pub data Opens (t : Checks) : ℕ → List SourcePiece → List OpenBlock → Type 0 where
  none_open : {ps : List SourcePiece} {es : List PositionedElement} → Nests t 0 ps es → Opens t 0 ps []
  and_another : {o d : ℕ} {f : OpenBlock} {ps qs : List SourcePiece} {fs : List OpenBlock}
      → Opens t o ps fs → BeginsBlock t o f qs d → Opens t d (ps ++ qs) (f ∷ fs)

-- ---- errors

-- whether an inverse, chained or not, may come next in an open block
abbrev pub takes_inverse : OpenBlock → Bool
takes_inverse f = not f.inverted && admits_inverse f.opening.kind

-- whether a piece may come next when these blocks are open
abbrev pub is_allowed_in : List OpenBlock → SourcePiece → Bool
is_allowed_in fs (leaf p e n r) = true
is_allowed_in fs (opens p o n r) = true
is_allowed_in [] (inverts p) = false
is_allowed_in (f ∷ fs) (inverts p) = takes_inverse f
is_allowed_in [] (chains p o n r) = false
is_allowed_in (f ∷ fs) (chains p o n r) = takes_inverse f
is_allowed_in [] (closes p raw m) = false
is_allowed_in (f ∷ fs) (closes p raw m) = may_end f.opening.kind raw m

-- how many levels a tag opens at once: itself, if it is a block or a chained inverse, and its parentheses and brackets
abbrev pub cost : SourcePiece → ℕ
cost (leaf p e n r) = n
cost (opens p o n r) = suc n
cost (inverts p) = 0
cost (chains p o n r) = suc n
cost (closes p raw m) = 0

-- RejectsAt t d fs x f: with the blocks fs open, and d levels open in all, the piece x can't come next. At one tag
-- 'unexpected' comes before 'too deep', and 'too deep' before its literals.
pub data RejectsAt (t : Checks) (d : ℕ) : List OpenBlock → SourcePiece → NestingError → Type 0 where
  not_allowed : {fs : List OpenBlock} {x : SourcePiece} → is_allowed_in fs x ≡ false → RejectsAt t d fs x (unexpected (position_in x))
  past_limit : {fs : List OpenBlock} {x : SourcePiece} → is_allowed_in fs x ≡ true → max_nesting < d + cost x
      → RejectsAt t d fs x (too_deep (position_in x))
  without_value : {fs : List OpenBlock} {x : SourcePiece} {raw : Text} → is_allowed_in fs x ≡ true → d + cost x ≤ max_nesting
      → rejected_in x ≡ Some raw → has_values t (Some raw) ≡ false → RejectsAt t d fs x (no_value raw)
  other_name : {f : OpenBlock} {fs : List OpenBlock} {p : Position} {raw : Bool} {m : Text} → may_end f.opening.kind raw m ≡ true
      → may_close t f.opening.closing m ≡ false
      → RejectsAt t d (f ∷ fs) (closes p raw m) (mismatched f.opening.kind f.opening.closing m p)

-- the first piece that is rejected at its position
pub data Rejects (t : Checks) : List SourcePiece → NestingError → Type 0 where
  rejects_at : {d : ℕ} {ps : List SourcePiece} {fs : List OpenBlock} {x : SourcePiece} {f : NestingError} (rest : List SourcePiece)
      → Opens t d ps fs → RejectsAt t d fs x f → Rejects t (ps ++ x ∷ rest) f

-- the innermost block is still open at the end
pub data LeavesOpen (t : Checks) : List SourcePiece → NestingError → Type 0 where
  left_open : {d : ℕ} {f : OpenBlock} {ps : List SourcePiece} {fs : List OpenBlock}
      → Opens t d ps (f ∷ fs) → LeavesOpen t ps (not_closed f.position)
