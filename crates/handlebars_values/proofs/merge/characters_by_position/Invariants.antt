use Rattle.std.proofs.Common.{◌≡◌}
use Rattle.std.specs.Str.{chars, IsUtf8}
use Rattle.serde_json.specs.Data.{no_members}
use Rattle.serde_json.specs.View.{members_view}
use Rattle.handlebars_scope.specs.Merged.{with_characters}
use Rattle.handlebars_values.proofs.merge.characters_by_position.Given as goal

abbrev pub invariant-characters : goal.invariant-characters
invariant-characters l = record {
  utf8 : IsUtf8 l.index-iterator.iter.rest.now;
  left : with_characters l.index-iterator.count (chars l.index-iterator.iter.rest.now) (members_view l.members.entries)
      ≡ with_characters 0 (chars l.text) no_members;
}
