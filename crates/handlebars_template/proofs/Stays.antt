-- A source that compiles to a tree without sections compiles to the same tree with them.
use Rattle.std.proofs.Common.{◌≡◌, true, false, List, [], ◌∷◌, ◌++◌, refl, ap, subst}
use Rattle.handlebars_base.specs.Bytes.{Text}
use Rattle.handlebars_expressions.specs.Expression.{identifier_name, opening_name}
use Rattle.handlebars_expressions.proofs.OpeningNames.{expression_stays}
use Rattle.handlebars_lexer.specs.Kind.{TagKind}
use Rattle.handlebars_lexer.specs.Tag.{Tag, escaped_tag, html_tag, block_tag, inverse_tag, chain_tag, close_tag, raw_tag, raw_close_tag, decorator_tag, decorator_block_tag, partial_tag, partial_block_tag, comment_tag, BlockExpression, Tildes, IsBlockExpression, Says, a_value, a_raw_value, a_signed_value, a_block, a_close, an_inverse, an_else, a_chain, a_raw_block, a_raw_close, a_decorator, a_decorator_block, a_partial, a_partial_block, a_comment, IsTag}
use Rattle.handlebars_lexer.specs.Trim.{WhitespaceControl}
use Rattle.handlebars_lexer.specs.Options.{Options}
use Rattle.handlebars_template.specs.Position.{Position}
use Rattle.handlebars_template.specs.Tokens.{Token, text_token, tag_token, TextAndTag, Reads, nothing_read, goes_on, AreTokens}
use Rattle.handlebars_template.specs.Nest.{SourcePiece, names_and_literals, Nests}
use Rattle.handlebars_template.specs.Tree.{Tree}
use Rattle.handlebars_template.specs.Compile.{tag_piece, text_pieces, pieces_in, Compiles, compiled, whole}
use Rattle.handlebars_template.specs.Stays.{without_sections, options_with_sections, TreesStay}

-- ---- a tag is unchanged

block_stays : (text : Text) (means : BlockExpression) (rest : Text) → IsBlockExpression identifier_name text means rest → IsBlockExpression opening_name text means rest
block_stays text means rest h = record { after = h.after; is_expression = expression_stays _ _ _ _ h.is_expression; binds = h.binds }

says_stays : {kind : TagKind} {t : Text} {tag : Tag} {rest : Text} → Says false kind t tag rest → Says true kind t tag rest
says_stays (a_value h) = a_value h
says_stays (a_raw_value h) = a_raw_value h
says_stays (a_signed_value h) = a_signed_value h
says_stays (a_block h) = a_block (block_stays _ _ _ h)
says_stays (a_close t) = a_close t
says_stays (an_inverse t) = an_inverse t
says_stays (an_else t) = an_else t
says_stays (a_chain h k) = a_chain h k
says_stays (a_raw_block h) = a_raw_block h
says_stays (a_raw_close t h) = a_raw_close t h
says_stays (a_decorator h) = a_decorator h
says_stays (a_decorator_block h) = a_decorator_block h
says_stays (a_partial h) = a_partial h
says_stays (a_partial_block h) = a_partial_block h
says_stays (a_comment h) = a_comment h

tag_stays : (token rest : Text) (tag : Tag) (tildes : Tildes) → IsTag false token rest tag tildes → IsTag true token rest tag tildes
tag_stays token rest tag tildes h = record {
  begins = h.begins;
  after = h.after;
  is_beginning = h.is_beginning;
  left = h.left;
  says = says_stays h.says;
  closes = h.closes;
}

-- ---- a source is unchanged

module _ (source : Text) (options : Options) where
  step_stays : (before : Text) (control : WhitespaceControl) → TextAndTag source (without_sections options) before control → TextAndTag source (options_with_sections options) before control
  step_stays before control x = record {
    text = x.text;
    unescaped = x.unescaped;
    token = x.token;
    tag = x.tag;
    tildes = x.tildes;
    rest = x.rest;
    whole = x.whole;
    is_text = x.is_text;
    is_tag = tag_stays x.token x.rest x.tag x.tildes x.is_tag;
    may_follow = x.may_follow;
  }

  reads_stay : {before : Text} {control : WhitespaceControl} {ps : List Token} → Reads source (without_sections options) before control ps → Reads source (options_with_sections options) before control ps
  unfolding step_stays
  reads_stay nothing_read = nothing_read
  reads_stay (goes_on {before = before} {control = control} r x) = goes_on (reads_stay r) (step_stays before control x)

  tokens_stay : (ps : List Token) → AreTokens source (without_sections options) ps → AreTokens source (options_with_sections options) ps
  tokens_stay ps c = record {
    before = c.before;
    control = c.control;
    tokens = c.tokens;
    begins = reads_stay c.begins;
    text = c.text;
    unescaped = c.unescaped;
    whole = c.whole;
    is_text = c.is_text;
    gives = c.gives;
  }

  tag_same : (p : Position) (e : WhitespaceControl) (t : Tag) → tag_piece (without_sections options) p e t ≡ tag_piece (options_with_sections options) p e t
  tag_same p e (escaped_tag expression) = refl
  tag_same p e (html_tag expression) = refl
  tag_same p e (block_tag expression) = refl
  tag_same p e inverse_tag = refl
  tag_same p e (chain_tag expression) = refl
  tag_same p e (close_tag n) = refl
  tag_same p e (raw_tag expression) = refl
  tag_same p e (raw_close_tag n) = refl
  tag_same p e (decorator_tag expression) = refl
  tag_same p e (decorator_block_tag expression) = refl
  tag_same p e (partial_tag expression) = refl
  tag_same p e (partial_block_tag expression) = refl
  tag_same p e (comment_tag t) = refl

  pieces_same : (ps : List Token) → pieces_in (without_sections options) ps ≡ pieces_in (options_with_sections options) ps
  pieces_same [] = refl
  pieces_same (text_token p e token unescaped n ∷ ps) = ap (λ (z : List SourcePiece). text_pieces (without_sections options) p e token unescaped n ++ z) (pieces_same ps)
  pieces_same (tag_token p token t e ∷ ps) = λ i. tag_same p e t i ∷ pieces_same ps i

  tree_stays : (t : Tree) → Compiles source (without_sections options) (compiled t) → Compiles source (options_with_sections options) (compiled t)
  tree_stays t (whole {ps = ps} {es = es} tokenized nests) =
      whole (tokens_stay ps tokenized) (subst (λ (z : List SourcePiece). Nests names_and_literals 0 z es) (pieces_same ps) nests)

pub trees_stay : TreesStay
trees_stay source options t h = tree_stays source options t h
