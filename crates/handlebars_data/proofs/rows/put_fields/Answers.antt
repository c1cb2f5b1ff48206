use Rattle.std.proofs.Common.{arith}
use Rattle.csv.specs.Records.{fields_of}
use Rattle.handlebars_data.proofs.RowFields.{next_field, last_field}
use Rattle.handlebars_data.proofs.rows.put_fields.Goals as goal

pub fields-preserved : goal.fields-preserved
fields-preserved c =
    next_field c.fields.i (fields_of c.args.names.now) (fields_of c.args.fields.now) _ _ _ _ _ c.get.ensures.value c.get-in-fields.ensures.value
    c.in_ok-put_field.ensures c.fields.invariant

pub returns : goal.returns
returns c = last_field c.fields.i (fields_of c.args.names.now) (fields_of c.args.fields.now) _ _ (omega (arith, c.len-i-end.ensures)) c.fields.invariant
