use Rattle.std.proofs.Common.{◌∷◌, []}
use Rattle.installer.specs.Figures.{figure}
use Rattle.installer.specs.Texts.{text_of}
use Rattle.installer.proofs.Fields.{two}
use Rattle.installer.proofs.text.Text.field.Goals as goal

pub returns : goal.returns
unfolding figure
returns c = two (text_of c.args.self) (44 ∷ []) (figure c.args.n) c.with.ensures c.digits.ensures
