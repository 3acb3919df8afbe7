use Rattle.std.proofs.Common.{◌≡◌, ◌<◌, Bool, not, ◌&&◌, ltb, ap, ◌∙◌, arith, rules}
use Rattle.std.proofs.lemmas.Bool.{lt-ltb}
use Rattle.lts.specs.Machines.{some_below}
use Rattle.dense.specs.Rows.{none}
use Rattle.dense.specs.Sounds.{meaning_sound}
use Rattle.ranks.specs.Boards.{module_of, contract_of}
use Rattle.ranks.specs.Steps.{in_rows}
use Rattle.ranks.proofs.Surveying.{covered_is}
use Rattle.ranks.proofs.sides.Sides.cover.Goals as goal

pub returns : goal.returns
returns c = λ p q h l.
    let s = c.args.self.now in
    let n = s.«module».sized in
    let m = s.contract.sized in
    let few = (meaning_sound s.contract.machine.now).small in
    let own = in_rows s.«module».closure p in
    let bare = in_rows c.uncovered_rows-bare.result q in
    let i : p < s.«module».size = omega arith in
    let k : q < 256 = omega arith in
    let call = c.by_state.ensures p none i in
    let row : in_rows c.by_state.result p q ≡ (ltb q s.contract.size && not (some_below 256 (λ t. own t && bare t))) = search rules in
    row ∙ ap (λ (b : Bool). b && not (some_below 256 (λ t. own t && bare t))) (lt-ltb q s.contract.size (omega arith))
    ∙ covered_is (module_of s) (contract_of s) p q c.args.sheet.now own bare (meaning_sound s.«module».machine.now).small l c.requires (λ t k. s.«module».closed p t h k) (λ t k. c.uncovered_rows-bare.ensures q t l k)
