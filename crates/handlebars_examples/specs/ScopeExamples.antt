-- Worked sources of `each`, `with` and `lookup`, each with its outcome over data.
use Rattle.std.specs.Prelude.{ℕ, List, [], ◌∷◌, Some, None, codes, true, false}
use Rattle.serde_json.specs.Data.{unsigned, Data, boolean, number, string, array, object, Items, no_items, item, no_members, member}
use Rattle.handlebars_base.specs.Bytes.{Text}
use Rattle.handlebars_base.specs.Reasons.{Refusal, invalid_json_index}
use Rattle.handlebars_lexer.specs.Options.{no_options}
use Rattle.handlebars_template.specs.Tree.{escaped_expression, name, literal}
use Rattle.handlebars_semantics.specs.State.{Setting}
use Rattle.handlebars_semantics.specs.Runs.{Failed}
use Rattle.handlebars_semantics.specs.Answer.{FromSource, RenderAnswers, GivesText}
use Rattle.handlebars_semantics.specs.Laws.{alone}
use Rattle.handlebars_examples.specs.Examples.{with, over, first_parts, from_registered, one_name_path, call_with_params}

-- ---- data

abbrev pub natural : ℕ → Data
natural n = number (unsigned n)

abbrev pub items_of : List Data → Items
items_of [] = no_items
items_of (d ∷ ds) = item d (items_of ds)

abbrev pub array_of : List Data → Data
array_of ds = array (items_of ds)

-- an object of two members
abbrev pub with_two : Text → Data → Text → Data → Data
with_two key d other e = object (member key d (member other e no_members))

-- a run with recursive lookup, with the helpers of a new registry
abbrev pub recursive_over : Data → Setting
recursive_over given = record { given = given; parts = record first_parts { recursive = true } }

-- the text that a source gives in a run
abbrev pub Gives : Setting → Text → Text → Type 0
Gives p source t = GivesText p (FromSource no_options source) t

-- ---- each

-- the error of a name that is no index, at line 1 and column 12
abbrev pub wrong_name : Refusal
wrong_name = record {
  reason = invalid_json_index (codes "x");
  location = record { name = None; line = Some 1; column = Some 12 };
}

-- If the member of an iteration is an array, a name counts as an index of it. A name that is no index fails at its position.
abbrev pub ArrayNameExample : Type 0
ArrayNameExample = RenderAnswers (over (with (codes "a") (array_of (array_of (natural 1 ∷ []) ∷ []))))
    (FromSource no_options (codes "{{#each a}}{{x}}{{/each}}")) [] (Failed wrong_name)

-- If two names are bound, the first stands for the member, and the second for its key.
abbrev pub TwoNamesExample : Type 0
TwoNamesExample = Gives (over (with (codes "a") (with_two (codes "b") (natural 2) (codes "x") (natural 1))))
    (codes "{{#each a as |v k|}}{{k}}{{v}};{{/each}}") (codes "b2;x1;")

-- A bound name comes before a member of that name.
abbrev pub ShadowExample : Type 0
ShadowExample = Gives (over (with (codes "a") (array_of (with (codes "x") (natural 1) ∷ []))))
    (codes "{{#each a as |x|}}{{x}}{{/each}}") (codes "[object]")

-- The only member is the first one and the last one.
abbrev pub LastExample : Type 0
LastExample = Gives (over (with (codes "a") (array_of (natural 0 ∷ []))))
    (codes "{{#each a}}{{@first}}{{@last}}{{/each}}") (codes "truetrue")

-- The members of an object come in the order of the bytes of their keys. Each has an index too.
abbrev pub KeysExample : Type 0
KeysExample = Gives (over (with_two (codes "B") (natural 2) (codes "a") (natural 1)))
    (codes "{{#each this}}{{@key}}{{@index}}{{/each}}") (codes "B0a1")

-- A variable after `../` is that of the block around.
abbrev pub IndicesExample : Type 0
IndicesExample =
    Gives (over (with (codes "a") (array_of (array_of (natural 7 ∷ []) ∷ array_of (natural 8 ∷ []) ∷ []))))
    (codes "{{#each a}}{{#each this}}{{@index}}{{@../index}}{{/each}}{{/each}}") (codes "0001")

abbrev pub empty_array : Data
empty_array = with (codes "a") (array_of [])

-- If there are no members, nothing is written without an inverse.
abbrev pub NoMembersExample : Type 0
NoMembersExample = Gives (over empty_array) (codes "{{#each a}}x{{/each}}") []

-- If there are no members, the inverse is rendered.
abbrev pub EachInverseExample : Type 0
EachInverseExample = Gives (over empty_array) (codes "{{#each a}}x{{else}}y{{/each}}") (codes "y")

-- ---- with

-- For a value that counts as false, the inverse is rendered.
abbrev pub WithInverseExample : Type 0
WithInverseExample = Gives (over (with (codes "a") (boolean false)))
    (codes "{{#with a}}x{{else}}y{{/with}}") (codes "y")

-- More `../` than there are blocks around lead to the nearest block.
abbrev pub TooFarUpExample : Type 0
TooFarUpExample = Gives (over (with_two (codes "a") (with (codes "d") (natural 2)) (codes "d") (natural 1)))
    (codes "{{#with a}}{{../../d}}{{/with}}") (codes "2")

-- A bound name comes first after `../` too.
abbrev pub BoundUpExample : Type 0
BoundUpExample = Gives (over (with (codes "a") (with (codes "x") (natural 4))))
    (codes "{{#with a as |z|}}{{../z.x}}{{/with}}") (codes "4")

-- In `each` inside `with`, `../` leads to the value of `with`.
abbrev pub UpExample : Type 0
UpExample = Gives (over (with (codes "a") (with_two (codes "b") (array_of (natural 1 ∷ [])) (codes "x") (natural 5))))
    (codes "{{#with a}}{{#each b}}{{../x}}{{/each}}{{/with}}") (codes "5")

-- ---- recursive lookup

-- A name that isn't in the nearest block is looked up in what is around its value, up to the whole data.
abbrev pub RecursiveExample : Type 0
RecursiveExample =
    Gives
    (recursive_over (with_two (codes "a") (with (codes "b") (with (codes "c") (natural 1))) (codes "x") (natural 7)))
    (codes "{{#with a}}{{#with b}}{{x}}{{/with}}{{/with}}") (codes "7")

-- A name may be bound to the whole data.
abbrev pub WholeExample : Type 0
WholeExample = Gives (recursive_over (string (codes "hi"))) (codes "{{#with this as |t|}}{{t}}{{/with}}") (codes "hi")

-- ---- lookup

-- An array is looked up by an index.
abbrev pub LookupExample : Type 0
LookupExample =
    Gives
    (over
    (with_two (codes "v1") (array_of (natural 1 ∷ natural 2 ∷ natural 3 ∷ []))
    (codes "v2") (array_of (natural 9 ∷ natural 8 ∷ natural 7 ∷ []))))
    (codes "{{#each v1}}{{lookup ../v2 @index}}{{/each}}") (codes "987")

-- what `lookup` of `a` by a literal writes over data in which `a` has this value, as a hand-built template
abbrev pub LookupGives : Data → Data → Text → Type 0
LookupGives a key t = GivesText (over (with (codes "a") a))
    (from_registered (alone (escaped_expression (call_with_params (name (codes "lookup")) (one_name_path (codes "a") ∷ literal key ∷ []))))) t

-- A text is no index of an array: {{lookup a "x"}}.
abbrev pub TextIndexExample : Type 0
TextIndexExample = LookupGives (array_of (natural 1 ∷ [])) (string (codes "x")) []

-- A number is no key of an object: {{lookup a 0}}.
abbrev pub NumberKeyExample : Type 0
NumberKeyExample = LookupGives (with (codes "0") (natural 1)) (natural 0) []
