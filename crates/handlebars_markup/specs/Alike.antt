-- Values that are equal up to their texts.
use Rattle.std.specs.Prelude.{◌≡◌, [], ◌∷◌}
use Rattle.serde_json.specs.Data.{Data, null, boolean, number, string, array, object, Items, no_items, item, Members, no_members, member}
use Rattle.handlebars_base.specs.Bytes.{Text}

-- Both texts are empty, or neither is: whether a text is empty decides what `if` and `each` choose.
abbrev pub AreAlikeTexts : Text → Text → Type 0
AreAlikeTexts [] [] = Unit {0}
AreAlikeTexts (b ∷ s) (c ∷ t) = Unit {0}
AreAlikeTexts s t = ⊥

-- Values that are equal up to texts. A text is empty in one exactly if it is empty in the other; the keys of objects are
-- equal.
abbrev mutual
  pub AreAlike : Data → Data → Type 0
  AreAlike null null = Unit {0}
  AreAlike (boolean b) (boolean c) = b ≡ c
  AreAlike (number n) (number m) = n ≡ m
  AreAlike (string s) (string t) = AreAlikeTexts s t
  AreAlike (array ds) (array es) = AreAlikeItems ds es
  AreAlike (object ms) (object ns) = AreAlikeMembers ms ns
  AreAlike d e = ⊥

  pub AreAlikeItems : Items → Items → Type 0
  AreAlikeItems no_items no_items = Unit {0}
  AreAlikeItems (item d ds) (item e es) = AreAlike d e × AreAlikeItems ds es
  AreAlikeItems ds es = ⊥

  pub AreAlikeMembers : Members → Members → Type 0
  AreAlikeMembers no_members no_members = Unit {0}
  AreAlikeMembers (member k d ms) (member l e ns) = (k ≡ l) × AreAlike d e × AreAlikeMembers ms ns
  AreAlikeMembers ms ns = ⊥
