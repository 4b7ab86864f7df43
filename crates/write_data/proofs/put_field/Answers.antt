use Rattle.write_data.proofs.RunLaws.{text_short}
use Rattle.write_data.proofs.put_field.Goals as goal

pub put_text-requires : goal.put_text-requires
put_text-requires c = let a = c.args in
    (c.requires.0, c.requires.1, text_short a.w a.f.now a.q)
