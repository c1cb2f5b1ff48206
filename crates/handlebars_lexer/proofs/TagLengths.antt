-- A tag is not empty.
use Rattle.std.proofs.Common.{Bool, ◌++◌, ◌<◌, length, arith, length-append}
use Rattle.handlebars_base.specs.Bytes.{Text}
use Rattle.handlebars_base.proofs.Ends.{length-end}
use Rattle.handlebars_lexer.specs.Tag.{Tag, Tildes, IsTag}
use Rattle.handlebars_lexer.proofs.Beginnings.{begun}
use Rattle.handlebars_lexer.proofs.TagEnds.{end-closed}

pub length-tag : (sections : Bool) (token rest : Text) (t : Tag) (tildes : Tildes) → IsTag sections token rest t tildes → 0 < length token
length-tag sections token rest t tildes x =
    let inside = (begun (token ++ rest) x.begins x.is_beginning).shorter in
    let end = length-end x.begins.inside rest (end-closed sections x.begins.kind x.begins.inside t tildes.right rest (record { after = x.after; says = x.says; closes = x.closes })) in
    omega (arith, inside, end, length-append token rest)
