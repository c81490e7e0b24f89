use Rattle.epx_picture.proofs.picture_writer.write_box.Goals as goal

pub returns-in-Some : goal.returns-in-Some
returns-in-Some c = rw c.in-Some.is c.write.ensures.bytes
