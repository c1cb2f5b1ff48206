-- Whether all, and whether some, of a helper's values count as true.
use Rattle.std.specs.Prelude.{◌≡◌, ◌&&◌, ◌||◌, List}
use Rattle.handlebars_base.specs.PathAndData.{PathAndData}
use Rattle.handlebars_helpers.specs.Boolean.{all_true, some_true}
use Rattle.handlebars_values.specs.declared.boolean.Truths.{Truths}

pub record ShowsTruths (ps : List PathAndData) (t : Truths) : Type 0 where
  pub all : t.all ≡ all_true ps
  pub some : t.some ≡ some_true ps

-- what holds once there are these values too
pub record AddsTruths (before : Truths) (ps : List PathAndData) (after : Truths) : Type 0 where
  pub all : after.all ≡ (before.all && all_true ps)
  pub some : after.some ≡ (before.some || some_true ps)
