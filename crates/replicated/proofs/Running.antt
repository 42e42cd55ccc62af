-- A command's calls, done one after the other on a state, leave what the definition says.
use Rattle.std.proofs.Common.{◌≡◌, ℕ, Bool, true, false, cond, ◌&&◌, List, [], ◌∷◌, refl, sym, ap, ◌∙◌, subst}
use Rattle.std.proofs.lemmas.Bool.{and_parts}
use Rattle.disks.specs.Cluster.{put}
use Rattle.copies.specs.Service.{Service, Keeper}
use Rattle.copies.specs.Messages.{Item, Bundle, Command, Reply, Session}
use Rattle.copies.specs.Admits.{is_house}
use Rattle.copies.specs.Copy.{is_new}
use Rattle.copies.specs.House.{State, Ran, replied, runs, fulfilled, bundle_done, command_done}
use Rattle.copies.specs.Runs as run
use Rattle.replicated.specs.Ties.{Blocks, reply_on, next_on, ran_of, of_houses, CommandsRun}

module _ {O R : Type 0} (sv : Service O R) (kp : Keeper sv) (v : ℕ) where
  replies_same : (xs : List (Item O)) (r : sv.Rest) (s : kp.Kept) → run.replied (reply_on sv kp) (next_on sv kp v) xs (record { rest = r; kept = s }) ≡ (runs sv kp v xs r s).replies
  unfolding runs run.replied
  replies_same [] r s = refl
  replies_same (x ∷ xs) r s = ap (λ ys. record { id = x.id; reply = sv.reply x.call r (kp.look s) } ∷ ys) (replies_same xs _ _)

  left_same : (xs : List (Item O)) (r : sv.Rest) (s : kp.Kept) → run.left (next_on sv kp v) xs (record { rest = r; kept = s }) ≡ record { rest = (runs sv kp v xs r s).rest; kept = (runs sv kp v xs r s).kept }
  unfolding runs run.left
  left_same [] r s = refl
  left_same (x ∷ xs) r s = left_same xs _ _

  done_with : (b : Bundle O) (z : State sv kp) → List (Reply sv.A) → Blocks sv kp → run.Ran sv.A (Blocks sv kp)
  done_with b z rs st = run.ran (put b.house (record { incarnation = b.incarnation; counter = b.counter; replies = rs }) z.sessions) st

  by_new : (b : Bundle O) (z : State sv kp) (t : Bool) →
      cond (true && t) (run.fulfilled (reply_on sv kp) (next_on sv kp v) b (ran_of sv kp z)) (ran_of sv kp z) ≡ ran_of sv kp (cond t (fulfilled sv kp b z.sessions (runs sv kp v b.calls z.rest z.kept)) z)
  unfolding done_with
  by_new b z true =
      ap (λ rs. done_with b z rs (run.left (next_on sv kp v) b.calls (record { rest = z.rest; kept = z.kept }))) (replies_same b.calls z.rest z.kept) ∙
      ap (λ st. done_with b z (runs sv kp v b.calls z.rest z.kept).replies st) (left_same b.calls z.rest z.kept)
  by_new b z false = refl

  bundle_same : (b : Bundle O) (z : State sv kp) → is_house b.house ≡ true → run.bundle_run (reply_on sv kp) (next_on sv kp v) b (ran_of sv kp z) ≡ ran_of sv kp (bundle_done sv kp v b z)
  unfolding bundle_done
  bundle_same b z h =
      ap (λ (t : Bool). cond (t && is_new b z.sessions) (run.fulfilled (reply_on sv kp) (next_on sv kp v) b (ran_of sv kp z)) (ran_of sv kp z)) h ∙ by_new b z (is_new b z.sessions)

  commands_same : (k : Command O) (z : State sv kp) → of_houses k ≡ true → run.command_run (reply_on sv kp) (next_on sv kp v) k (ran_of sv kp z) ≡ ran_of sv kp (command_done sv kp v k z)
  unfolding command_done run.command_run of_houses
  commands_same [] z h = refl
  commands_same (b ∷ k) z h =
      let p = and_parts (is_house b.house) (of_houses k) h in
      ap (λ x. run.command_run (reply_on sv kp) (next_on sv kp v) k x) (bundle_same b z p.0) ∙ commands_same k (bundle_done sv kp v b z) p.1

pub commands_run : CommandsRun
commands_run O R sv kp v k z h = commands_same sv kp v k z h
