-- The test whether two states are one decides that.
use Rattle.std.proofs.Common.{◌≡◌, Bool, true, false, ◌&&◌, refl, ap, ◌∙◌, subst}
use Rattle.std.specs.Str.{bytes_eq}
use Rattle.std.proofs.lemmas.Slice.Eq.{bytes_eq-Decides}
use Rattle.handlebars_base.specs.Bytes.{Text}
use Rattle.handlebars_html.specs.Addresses.{Value, harmless, forbidden, followed, loaded, loaded_slash, loaded_authority, loaded_host}
use Rattle.handlebars_html.specs.Tags.{Content, markup, inner_text, script_text, svg_begins, svg_ends, html_in_svg, foreign_markup, noscript_begins, noscript_ends, plaintext, Attributes, common, of_active, of_showing, of_loading, of_meta, meta_content, meta_pragma, Tag}
use Rattle.handlebars_html.specs.Tokenizer.{Tokenizer, in_data, tag_open, end_tag_open, tag_name, before_attribute, attribute_name, after_attribute, before_value, quoted, in_url, unquoted, declaration, declaration_dash, bogus, comment_start, comment_start_dash, in_comment, comment_dash, comment_end, comment_bang, comment_unclear, comment_unclear_dash, in_text, text_tag_open, text_end_name, in_script, script_tag_open, script_end_name, text_end, late, misled, stuck}
use Rattle.handlebars_html.specs.Html.{Foreign, outside, in_svg, anywhere, Context, Html}
use Rattle.handlebars_html.specs.Same.{is_same_bool, is_same_content, is_same_attributes, is_same_tag, is_same_value, is_same_tokenizer, is_same_foreign, is_same_context, is_same, DecidesSame}
use Rattle.handlebars_html.proofs.Data.{both}

-- ---- what is the same is one

by_both : {P : Type 0} (x y : Bool) → (x && y) ≡ true → (x ≡ true → y ≡ true → P) → P
by_both x y is go = let each = both x y is in go each.0 each.1

bool-is : (x y : Bool) → is_same_bool x y ≡ true → x ≡ y
bool-is true true is = refl
bool-is false false is = refl
bool-is x y is = cc

text-is : (n m : Text) → bytes_eq n m ≡ true → n ≡ m
text-is n m is = (bytes_eq-Decides n m).0 is

content-is : (x y : Content) → is_same_content x y ≡ true → x ≡ y
content-is markup markup is = refl
content-is (inner_text x n) (inner_text y m) is = by_both (is_same_bool x y) (bytes_eq n m) is (λ a b.
    ap (λ (z : Bool). inner_text z n) (bool-is x y a) ∙ ap (λ (z : Text). inner_text y z) (text-is n m b))
content-is script_text script_text is = refl
content-is svg_begins svg_begins is = refl
content-is svg_ends svg_ends is = refl
content-is html_in_svg html_in_svg is = refl
content-is foreign_markup foreign_markup is = refl
content-is noscript_begins noscript_begins is = refl
content-is noscript_ends noscript_ends is = refl
content-is plaintext plaintext is = refl
content-is x y is = cc

attributes-is : (x y : Attributes) → is_same_attributes x y ≡ true → x ≡ y
attributes-is common common is = refl
attributes-is of_active of_active is = refl
attributes-is of_showing of_showing is = refl
attributes-is of_loading of_loading is = refl
attributes-is of_meta of_meta is = refl
attributes-is meta_content meta_content is = refl
attributes-is meta_pragma meta_pragma is = refl
attributes-is x y is = cc

tag-is : (x y : Tag) → is_same_tag x y ≡ true → x ≡ y
tag-is x y is = by_both (is_same_content x.content y.content) (is_same_attributes x.attributes y.attributes) is (λ a b.
    ap (λ (z : Content). record x { content = z }) (content-is x.content y.content a)
    ∙ ap (λ (z : Attributes). record y { attributes = z }) (attributes-is x.attributes y.attributes b))

value-is : (x y : Value) → is_same_value x y ≡ true → x ≡ y
value-is harmless harmless is = refl
value-is forbidden forbidden is = refl
value-is (followed s) (followed t) is = ap (λ (z : Text). followed z) (text-is s t is)
value-is (loaded s) (loaded t) is = ap (λ (z : Text). loaded z) (text-is s t is)
value-is loaded_slash loaded_slash is = refl
value-is loaded_authority loaded_authority is = refl
value-is loaded_host loaded_host is = refl
value-is x y is = cc

tokenizer-is : (h g : Tokenizer) → is_same_tokenizer h g ≡ true → h ≡ g
unfolding is_same_tokenizer
tokenizer-is in_data in_data is = refl
tokenizer-is tag_open tag_open is = refl
tokenizer-is end_tag_open end_tag_open is = refl
tokenizer-is declaration declaration is = refl
tokenizer-is declaration_dash declaration_dash is = refl
tokenizer-is bogus bogus is = refl
tokenizer-is comment_start comment_start is = refl
tokenizer-is comment_start_dash comment_start_dash is = refl
tokenizer-is in_comment in_comment is = refl
tokenizer-is comment_dash comment_dash is = refl
tokenizer-is comment_end comment_end is = refl
tokenizer-is comment_bang comment_bang is = refl
tokenizer-is comment_unclear comment_unclear is = refl
tokenizer-is comment_unclear_dash comment_unclear_dash is = refl
tokenizer-is in_script in_script is = refl
tokenizer-is script_tag_open script_tag_open is = refl
tokenizer-is text_end text_end is = refl
tokenizer-is late late is = refl
tokenizer-is misled misled is = refl
tokenizer-is stuck stuck is = refl
tokenizer-is (tag_name x n) (tag_name y m) is = by_both (is_same_bool x y) (bytes_eq n m) is (λ a b.
    ap (λ (z : Bool). tag_name z n) (bool-is x y a) ∙ ap (λ (z : Text). tag_name y z) (text-is n m b))
tokenizer-is (before_attribute s) (before_attribute t) is = ap (λ (z : Tag). before_attribute z) (tag-is s t is)
tokenizer-is (attribute_name s n) (attribute_name t m) is = by_both (is_same_tag s t) (bytes_eq n m) is (λ a b.
    ap (λ (z : Tag). attribute_name z n) (tag-is s t a) ∙ ap (λ (z : Text). attribute_name t z) (text-is n m b))
tokenizer-is (after_attribute s n) (after_attribute t m) is = by_both (is_same_tag s t) (bytes_eq n m) is (λ a b.
    ap (λ (z : Tag). after_attribute z n) (tag-is s t a) ∙ ap (λ (z : Text). after_attribute t z) (text-is n m b))
tokenizer-is (before_value s v) (before_value t w) is = by_both (is_same_tag s t) (is_same_value v w) is (λ a b.
    ap (λ (z : Tag). before_value z v) (tag-is s t a) ∙ ap (λ (z : Value). before_value t z) (value-is v w b))
tokenizer-is (quoted x s v) (quoted y t w) is =
    by_both (is_same_bool x y) (is_same_tag s t && is_same_value v w) is (λ a rest.
    by_both (is_same_tag s t) (is_same_value v w) rest (λ b c.
    ap (λ (z : Bool). quoted z s v) (bool-is x y a) ∙ ap (λ (z : Tag). quoted y z v) (tag-is s t b)
    ∙ ap (λ (z : Value). quoted y t z) (value-is v w c)))
tokenizer-is (in_url x s) (in_url y t) is = by_both (is_same_bool x y) (is_same_tag s t) is (λ a b.
    ap (λ (z : Bool). in_url z s) (bool-is x y a) ∙ ap (λ (z : Tag). in_url y z) (tag-is s t b))
tokenizer-is (unquoted s) (unquoted t) is = ap (λ (z : Tag). unquoted z) (tag-is s t is)
tokenizer-is (in_text x n) (in_text y m) is = by_both (is_same_bool x y) (bytes_eq n m) is (λ a b.
    ap (λ (z : Bool). in_text z n) (bool-is x y a) ∙ ap (λ (z : Text). in_text y z) (text-is n m b))
tokenizer-is (text_tag_open x n) (text_tag_open y m) is = by_both (is_same_bool x y) (bytes_eq n m) is (λ a b.
    ap (λ (z : Bool). text_tag_open z n) (bool-is x y a) ∙ ap (λ (z : Text). text_tag_open y z) (text-is n m b))
tokenizer-is (text_end_name n) (text_end_name m) is = ap (λ (z : Text). text_end_name z) (text-is n m is)
tokenizer-is (script_end_name n) (script_end_name m) is = ap (λ (z : Text). script_end_name z) (text-is n m is)
tokenizer-is h g is = cc

foreign-is : (x y : Foreign) → is_same_foreign x y ≡ true → x ≡ y
foreign-is outside outside is = refl
foreign-is in_svg in_svg is = refl
foreign-is anywhere anywhere is = refl
foreign-is x y is = cc

context-is : (x y : Context) → is_same_context x y ≡ true → x ≡ y
context-is x y is =
    by_both (is_same_bool x.in_noscript y.in_noscript) (is_same_foreign x.foreign y.foreign) is (λ a b.
    ap (λ (z : Bool). record x { in_noscript = z }) (bool-is x.in_noscript y.in_noscript a)
    ∙ ap (λ (z : Foreign). record y { foreign = z }) (foreign-is x.foreign y.foreign b))

html-is : (h g : Html) → is_same h g ≡ true → h ≡ g
html-is h g is = by_both (is_same_context h.context g.context) (is_same_tokenizer h.tokenizer g.tokenizer) is (λ a b.
    ap (λ (z : Context). record h { context = z }) (context-is h.context g.context a)
    ∙ ap (λ (z : Tokenizer). record g { tokenizer = z }) (tokenizer-is h.tokenizer g.tokenizer b))

-- ---- a state is the same as itself

and-true : (x y : Bool) → x ≡ true → y ≡ true → (x && y) ≡ true
and-true true y h k = k
and-true false y h k = cc

bool-self : (x : Bool) → is_same_bool x x ≡ true
bool-self true = refl
bool-self false = refl

text-self : (n : Text) → bytes_eq n n ≡ true
text-self n = (bytes_eq-Decides n n).1 refl

content-self : (x : Content) → is_same_content x x ≡ true
content-self (inner_text x n) = and-true _ _ (bool-self x) (text-self n)
content-self x = refl

attributes-self : (x : Attributes) → is_same_attributes x x ≡ true
attributes-self common = refl
attributes-self of_active = refl
attributes-self of_showing = refl
attributes-self of_loading = refl
attributes-self of_meta = refl
attributes-self meta_content = refl
attributes-self meta_pragma = refl

tag-self : (x : Tag) → is_same_tag x x ≡ true
tag-self x = and-true _ _ (content-self x.content) (attributes-self x.attributes)

value-self : (x : Value) → is_same_value x x ≡ true
value-self (followed s) = text-self s
value-self (loaded s) = text-self s
value-self x = refl

tokenizer-self : (h : Tokenizer) → is_same_tokenizer h h ≡ true
unfolding is_same_tokenizer
tokenizer-self (tag_name x n) = and-true _ _ (bool-self x) (text-self n)
tokenizer-self (before_attribute s) = tag-self s
tokenizer-self (attribute_name s n) = and-true _ _ (tag-self s) (text-self n)
tokenizer-self (after_attribute s n) = and-true _ _ (tag-self s) (text-self n)
tokenizer-self (before_value s v) = and-true _ _ (tag-self s) (value-self v)
tokenizer-self (quoted x s v) = and-true _ _ (bool-self x) (and-true _ _ (tag-self s) (value-self v))
tokenizer-self (in_url x s) = and-true _ _ (bool-self x) (tag-self s)
tokenizer-self (unquoted s) = tag-self s
tokenizer-self (in_text x n) = and-true _ _ (bool-self x) (text-self n)
tokenizer-self (text_tag_open x n) = and-true _ _ (bool-self x) (text-self n)
tokenizer-self (text_end_name n) = text-self n
tokenizer-self (script_end_name n) = text-self n
tokenizer-self h = refl

foreign-self : (x : Foreign) → is_same_foreign x x ≡ true
foreign-self outside = refl
foreign-self in_svg = refl
foreign-self anywhere = refl

html-self : (h : Html) → is_same h h ≡ true
html-self h = and-true _ _ (and-true _ _ (bool-self h.context.in_noscript) (foreign-self h.context.foreign)) (tokenizer-self h.tokenizer)

pub decides_same : DecidesSame
decides_same h g = (html-is h g, λ is. subst (λ (x : Html). is_same h x ≡ true) is (html-self h))
