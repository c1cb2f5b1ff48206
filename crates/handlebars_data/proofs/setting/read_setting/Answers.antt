use Rattle.std.proofs.Common.{arith}
use lib.Utf8.{encode}
use Rattle.handlebars_data.proofs.Settings.{text_setting}
use Rattle.handlebars_data.proofs.setting.read_setting.Goals as goal

pub returns-in-None-strip_suffix : goal.returns-in-None-strip_suffix
unfolding encode
returns-in-None-strip_suffix c =
    let around = c.in-Some.ensures.byte (omega arith) (λ w o h. h) in
    let is = text_setting c.args.numbers c.args.word.now c.in-Some.before.now c.in-Some.after.now around.0 around.1 around.2 c.in-None-strip_suffix.ensures.cases in
    rw is c.text_member.ensures
