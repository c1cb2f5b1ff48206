-- Problems as plain data.
use Rattle.std.specs.Prelude.{List, Option}
use Rattle.handlebars_report.specs.declared.position.Position.{Position}
use Rattle.handlebars_report.specs.declared.problem.Severity.{Severity}
use Rattle.handlebars_report.specs.Position.{Text}

-- a range in a file, and the text of the line on which it starts
pub record Place : Type 0 where
  pub path : Text
  pub start : Position
  pub end : Position
  pub line_text : Text

pub record Note : Type 0 where
  pub message : Text
  pub place : Option Place

pub record Problem : Type 0 where
  pub severity : Severity
  pub code : Text
  pub place : Place
  pub message : Text
  pub help : List Text
  pub notes : List Note
