-- Two runs at settings that are equal up to the texts of their data.
use Rattle.serde_json.specs.Data.{Data}
use Rattle.handlebars_semantics.specs.State.{Setting}
use Rattle.handlebars_markup.specs.Alike.{AreAlike}
use Rattle.handlebars_markup.specs.TwoRuns.{IsBlind, given_data}

-- All trees of the setting are blind, and there is other data that is equal to its own up to texts.
pub record HasTwin (p : Setting) : Type 0 where
  pub blind : IsBlind p.parts
  pub other : Data
  pub alike : AreAlike p.given other

-- the setting with the other data
abbrev pub twin : (p : Setting) → HasTwin p → Setting
twin p w = given_data w.other p
