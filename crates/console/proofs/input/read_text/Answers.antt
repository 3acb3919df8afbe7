use Rattle.console.proofs.Known.{first_known}
use Rattle.console.proofs.input.read_text.Goals as goal

pub returns : goal.returns
returns g c =
    first_known (g.R.Read.remaining c.args.input) 40961 c.read_to_end.new.buf.items
    (rw (c.take.ensures.limit, c.take.ensures.inner, c.new-text.ensures.items) at c.in_ok-read_to_end.ensures.bytes)
