use Rattle.wy_engine.proofs.parsing.parse_file.Goals as goal

pub parse-requires : goal.parse-requires
parse-requires c =
    let whole = c.in-Ok.ensures.whole in
    record { ends = rw c.as_slice.ensures.value whole.ends; indents = rw c.as_slice.ensures.value whole.indents; marks = rw c.as_slice.ensures.value whole.marks }
