use Rattle.std.proofs.Common.{◌++◌, ap, ◌∙◌}
use Rattle.epx_devices.proofs.file_saver.fill_new.Goals as goal

pub returns-in-Ok-sync_all : goal.returns-in-Ok-sync_all
returns-in-Ok-sync_all g c =
    let taken = ap (λ s. s.taken ++ c.args.bytes.now) c.new-sink.ensures in
    let said = c.in-Ok-write_out.ensures in
    (c.write_out.new.sink, (said.bytes ∙ taken, said.flushed))
