-- One block on, and the whole tables.
use Rattle.std.proofs.Common.{Some, ap, ◌∙◌, arith}
use Rattle.layout.specs.Plans.{sizes_of}
use Rattle.records.specs.declared.head.Heads.{Heads}
use Rattle.records.specs.Tables.{standing}
use Rattle.records.proofs.Owners.{table_none, table_more, table_all}
use Rattle.records.proofs.Stood.{stood_none, stood_more, stood_all}
use Rattle.records.proofs.store.Store.scan.Goals as goal

pub loop-b-init : goal.loop-b-init
loop-b-init g c =
    let s = g.F.Flash.model.meaning c.args.self.now.flash.now in (
      table_none s.count s.word (sizes_of c.args.self.now.plan.now) _ c.none-found.ensures.heads,
      stood_none (λ k. standing (s.word k)) _ c.none-found.ensures.standings,
    )

pub loop-b-preserved : goal.loop-b-preserved
loop-b-preserved g c =
    let s = g.F.Flash.model.meaning c.args.self.now.flash.now in
    let p = sizes_of c.args.self.now.plan.now in (
      table_more s.count s.word p c.loop-b.b c.loop-b.found.heads c.note.new.self.heads c.in_ok-owned.owned c.in_ok-owned.ensures.few c.loop-b.invariant.0
          c.in_ok-owned.ensures.answer.1 (ap (λ (h : Heads). h.entries) c.note.ensures.heads ∙ c.enter.ensures),
      stood_more (λ k. standing (s.word k)) c.loop-b.b c.loop-b.found.standings.entries c.note.new.self.standings.entries (Some c.state_of.result)
          (omega (arith, c.in_ok-ask_power.ensures.shape.few)) c.loop-b.invariant.1 (ap Some (c.state_of.ensures ∙ ap standing c.in_ok-words.ensures.1)) c.note.ensures.standings,
    )

pub returns : goal.returns
returns g c =
    let s = g.F.Flash.model.meaning c.args.self.now.flash.now in (
      c.in_ok-ask_power.ensures.answer.0,
      table_all s.count s.word (sizes_of c.args.self.now.plan.now) c.loop-b.b c.loop-b.found.heads (omega arith) c.loop-b.invariant.0,
      stood_all (λ k. standing (s.word k)) c.loop-b.b s.count c.loop-b.found.standings (omega arith) c.in_ok-ask_power.ensures.shape.few c.loop-b.invariant.1,
    )
