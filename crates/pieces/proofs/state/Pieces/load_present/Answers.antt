use Rattle.std.proofs.Common.{◌≡◌, ℕ, ◌+◌, ◌*◌, drop, refl, sym, ap, ◌∙◌, add-zero, arith, subst, rules, Err, None, Result, IfErr}
use Rattle.volumes.specs.Service.{is_living}
use Rattle.pieces.specs.declared.load.Unloaded.{Unloaded}
use Rattle.pieces.specs.declared.load.Unloaded.TheVariants.{Broken}
use Rattle.pieces.specs.Kept.{the_kept}
use Rattle.pieces.specs.Loads.{load_entries, entries_in}
use Rattle.pieces.proofs.LoadSteps.{load_more, load_end, load_broken, long_load, part_read, long_entries}
use Rattle.pieces.proofs.state.Pieces.load_present.Goals as goal

pub loop-i-init : goal.loop-i-init
loop-i-init c = record { kept = ap (λ (n : ℕ). load_entries (is_living c.args.living.next c.args.living.heads.now) n (entries_in 7 (drop 64 c.args.sector.now)) (the_kept c.args.self.now)) (add-zero (7 * c.args.number)); long = refl; layout = refl }

pub loop-i-preserved : goal.loop-i-preserved
loop-i-preserved c =
    let i = c.loop-i.i in
    let v = c.loop-i.invariant in
    let done = c.in_ok-load_entry.ensures {u = tt} in
    record {
      kept = load_more (is_living c.args.living.next c.args.living.heads.now) (7 * c.args.number) i (entries_in 7 (drop 64 c.args.sector.now)) c.read-entry.result _ _ _ (omega (arith, long_entries 7 (drop 64 c.args.sector.now)))
          (part_read 7 i c.args.sector.now c.read-entry.result (omega arith) c.read-entry.ensures.value) done.kept v.kept;
      long = long_load (is_living c.args.living.next c.args.living.heads.now) (7 * c.args.number + i) c.read-entry.result _ _ done.kept ∙ v.long;
      layout = c.load_entry.ensures.layout ∙ v.layout;
    }

pub returns-clause-kept : goal.returns-clause-kept
returns-clause-kept c = load_end (is_living c.args.living.next c.args.living.heads.now) (7 * c.args.number) c.loop-i.i (entries_in 7 (drop 64 c.args.sector.now)) _ _ (omega (arith, long_entries 7 (drop 64 c.args.sector.now))) c.loop-i.invariant.kept

pub returns-in_err-load_entry-clause-broken : goal.returns-in_err-load_entry-clause-broken
returns-in_err-load_entry-clause-broken c =
    let same : c.from_residual.result ≡ Err c.in_err-load_entry.field-0.0 = search rules in
    subst (λ (r : Result (Unit {0}) Unloaded). IfErr r (λ e. e ≡ Broken → load_entries (is_living c.args.living.next c.args.living.heads.now) (7 * c.args.number) (entries_in 7 (drop 64 c.args.sector.now)) (the_kept c.args.self.now) ≡ None)) (sym same)
    (λ h. load_broken (is_living c.args.living.next c.args.living.heads.now) (7 * c.args.number) c.loop-i.i (entries_in 7 (drop 64 c.args.sector.now)) c.read-entry.result _ _ (omega (arith, long_entries 7 (drop 64 c.args.sector.now)))
    (part_read 7 c.loop-i.i c.args.sector.now c.read-entry.result (omega arith) c.read-entry.ensures.value) ((c.in_err-load_entry.ensures {u = tt}).broken h) c.loop-i.invariant.kept)
