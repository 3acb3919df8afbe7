use Rattle.std.proofs.Common.{◌≡◌, ◌^◌, ◌<◌, Bool, false, ◌&&◌, ◌||◌, eqb, ltb, get_or, take, sym, ap, ◌∙◌, subst, arith}
use Rattle.std.proofs.lemmas.List.{take_all}
use Rattle.std.proofs.lemmas.Bool.{and_left, and_right, eq-eqb, ne_eqb, lt-ltb, le-ltb}
use Rattle.lts.specs.Labels.{member}
use Rattle.lts.specs.Machines.{initial}
use Rattle.labels.specs.declared.LabelSet.{LabelSet}
use Rattle.source.specs.declared.table.Move.{Move}
use Rattle.source.specs.Tables.{any, table_machine}
use Rattle.source.specs.Sounds.{table_sound}
use Rattle.labels.proofs.Bits.{or_false}
use Rattle.source.proofs.Masks.{mask_from}
use Rattle.source.proofs.Initials.{initials_outside}
use Rattle.source.proofs.Tabled.{blank, leaves, any_more, table_initial}
use Rattle.source.proofs.table.TableSource.initials.Goals as goal
use Rattle.source.proofs.table.TableSource.initials.Goals.{then-v-p+then-v-n, else-v-p, else-v-p-via-then-v-p+else-v-n, else-v-p-via-else-v-p}

pub returns-then-p-n : goal.returns-then-p-n
returns-then-p-n c =
    let states = c.args.self.now.states in
    let start = c.args.self.now.start in
    let vs = c.args.self.now.moves.now in
    initials_outside (table_machine states start vs) c.args.p c.empty-seen.result.0 (table_sound states start vs) (omega arith) c.empty-seen.ensures

pub loop-v-preserved : goal.loop-v-preserved
loop-v-preserved c =
    let p = c.args.p in
    let n = c.count-n.result in
    let vs = c.args.self.now.moves.now in
    let i = c.loop-v.v-index in
    let v : Move = get_or vs i blank in
    let A = eqb v.from p in
    let B = ltb v.to n in
    elim c.if-v-p.branch [
      | then-v-p+then-v-n w ↦ (
        subst (λ (s : LabelSet). s.0 < 2 ^ 64) (sym w.seen-is) (omega arith),
        λ a h.
            let C = eqb v.label a in
            let S = any (leaves n p a) (take i vs) in
            ap (λ (s : LabelSet). member s.0 a) w.seen-is
            ∙ w.with-seen.ensures a h
            ∙ ap (λ (b : Bool). b || C) (c.loop-v.invariant.1 a h)
            ∙ ap (λ (b : Bool). S || (b && C)) (sym (lt-ltb v.to n w.if-v-n.true))
            ∙ ap (λ (b : Bool). S || (b && (B && C))) (sym (eq-eqb v.from p w.if-v-p.true))
            ∙ sym (any_more (leaves n p a) vs i blank c.loop-v-test.true),
      )
      | else-v-p w ↦ (
        subst (λ (s : LabelSet). s.0 < 2 ^ 64) (sym w.seen-is) (omega arith),
        λ a h.
            let C = eqb v.label a in
            let S = any (leaves n p a) (take i vs) in
            let other : leaves n p a v ≡ false =
            elim w.else-v-p.branch [
              | else-v-p-via-then-v-p+else-v-n x ↦ and_right A (B && C) (and_left B C (le-ltb v.to n x.if-v-n.false))
              | else-v-p-via-else-v-p x ↦ and_left A (B && C) (ne_eqb v.from p x.if-v-p.false)
            ]
            in
            ap (λ (s : LabelSet). member s.0 a) w.seen-is
            ∙ c.loop-v.invariant.1 a h ∙ sym (or_false S)
            ∙ ap (λ (b : Bool). S || b) (sym other)
            ∙ sym (any_more (leaves n p a) vs i blank c.loop-v-test.true),
      )
    ]

pub returns : goal.returns
returns c =
    let states = c.args.self.now.states in
    let start = c.args.self.now.start in
    let p = c.args.p in
    let n = c.count-n.result in
    let vs = c.args.self.now.moves.now in
    mask_from 64 c.loop-v.seen.0 (initial (table_machine states start vs) p) (omega arith)
    (λ a h.
    c.loop-v.invariant.1 a h
    ∙ ap (any (leaves n p a)) (take_all c.loop-v.v-index vs c.loop-v-test.false)
    ∙ table_initial states start vs p a n c.count-n.ensures (omega arith) (omega arith))
