use Rattle.std.proofs.Common.{◌≡◌, drop}
use Rattle.csv.specs.Records.{fields_of}
use Rattle.serde_json.specs.View.{members_view}
use Rattle.handlebars_data.specs.Rows.{row_members}
use Rattle.handlebars_data.proofs.rows.put_fields.Given as goal

-- the fields that are left, with those so far, give the whole row
abbrev pub invariant-fields : goal.invariant-fields
invariant-fields l =
    row_members (drop l.i (fields_of l.names)) (drop l.i (fields_of l.fields)) (members_view l.members.entries)
    ≡ row_members (fields_of l.names) (fields_of l.fields) (members_view l.fn.members.entries)
