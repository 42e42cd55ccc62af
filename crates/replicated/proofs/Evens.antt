-- Two copies alone become level and even. One that recovers catches up first: the other is level and no less far. Then y hears of x, so it
-- is no less far and has promised no less; x hears of y, so its promise is y's ballot and it doesn't lead; and y hears of x again, which is
-- no less far and elects itself, and proposes nothing under that ballot yet, so that y becomes exactly as far.
use Rattle.std.specs.Prelude.{◌≡◌, ℕ, suc, ◌+◌, ◌*◌, ◌%◌}
use Rattle.std.proofs.Common.{◌≤◌, ◌≢◌, sym, refl, ap, ◌∙◌, subst, arith}
use Rattle.agreement.proofs.Behind.{no_less, not_two}
use Rattle.compose.specs.Pure.{on}
use Rattle.copies.specs.Service.{Service, Keeper}
use Rattle.copies.specs.Messages.{Recovery, level, recovers}
use Rattle.copies.specs.Copy.{Memory}
use Rattle.copies.specs.House.{Disks}
use Rattle.replicated.proofs.Good.{Ok, OkOn, Lags}
use Rattle.replicated.proofs.Now.{Sure, Alone, Now, Pair, swap, facts}
use Rattle.replicated.proofs.Passes.{Both, catches}
use Rattle.replicated.proofs.Meets.{Met, meets}

module _ {O R : Type 0} {sv : Service O R} {kp : Keeper sv} (alone : Alone sv kp) where
  -- both become level
  pub levels : {x y : ℕ} (p : Pair alone x y) (n : Now alone) (mx : Memory O) (dx : Disks sv kp) (my : Memory O) (dy : Disks sv kp) → n.v.house x ≡ on mx dx → n.v.house y ≡ on my dy → Both alone n (6 * alone.keeps.most + 9) x y
  levels {x} {y} p n mx dx my dy ex ey = go dx.agreeing.recovery dy.agreeing.recovery refl refl (ox.lags p.lx) (oy.lags p.ly)
    where
      s : Sure sv kp n.v
      s = alone.sure n.fs n.v n.trace

      ox : OkOn sv kp s.g s.asked s.made x mx dx
      ox = subst (Ok sv kp s.g s.asked s.made x) ex (s.house x)

      oy : OkOn sv kp s.g s.asked s.made y my dy
      oy = subst (Ok sv kp s.g s.asked s.made y) ey (s.house y)

      go : (a b : Recovery) → dx.agreeing.recovery ≡ a → dy.agreeing.recovery ≡ b → Lags s.g x a → Lags s.g y b → Both alone n (6 * alone.keeps.most + 9) x y
      go level level e f h i = record { then = n; mx = mx; dx = dx; my = my; dy = dy; x_is = ex; y_is = ey; x_level = e; y_level = f; cost = omega arith }
      go (recovers a b) level e f h i = catches alone p n mx dx my dy ex ey a b e f (omega (arith, no_less s.g s.inv x h y p.ly p.ne, (ox.copy_is p.lx).version_is, (oy.copy_is p.ly).version_is))
      go level (recovers a b) e f h i =
          let z = catches alone (swap alone p) n my dy mx dx ey ex a b f e (omega (arith, no_less s.g s.inv y i x p.lx (λ q. p.ne (sym q)), (ox.copy_is p.lx).version_is, (oy.copy_is p.ly).version_is)) in
          record { then = z.then; mx = z.my; dx = z.dy; my = z.mx; dy = z.dx; x_is = z.y_is; y_is = z.x_is; x_level = z.y_level; y_level = z.x_level; cost = z.cost }
      go (recovers a b) (recovers c d) e f h i = absurd (not_two s.g s.inv x y h i (λ q. p.ne (sym q)))

  -- both are level and as far, have promised as much, and neither leads
  pub record Even (n : Now alone) (x y : ℕ) : Type 0 where
    pub mx : Memory O
    pub dx : Disks sv kp
    pub my : Memory O
    pub dy : Disks sv kp
    pub x_is : n.v.house x ≡ on mx dx
    pub y_is : n.v.house y ≡ on my dy
    pub x_level : dx.agreeing.recovery ≡ level
    pub y_level : dy.agreeing.recovery ≡ level
    pub vers : dy.agreeing.version ≡ dx.agreeing.version
    pub proms : dy.agreeing.promised ≡ dx.agreeing.promised
    pub x_not : mx.lead ≢ suc dx.agreeing.promised
    pub y_not : my.lead ≢ suc dy.agreeing.promised

  pub record Evens (n : Now alone) (k x y : ℕ) : Type 0 where
    pub then : Now alone
    pub even : Even then x y
    pub cost : then.steps ≤ k + n.steps

  pub evens : {x y : ℕ} (p : Pair alone x y) (n : Now alone) (mx : Memory O) (dx : Disks sv kp) (my : Memory O) (dy : Disks sv kp) → n.v.house x ≡ on mx dx → n.v.house y ≡ on my dy → Evens n (24 * alone.keeps.most + 42) x y
  evens {x} {y} p n mx dx my dy ex ey = first (levels p n mx dx my dy ex ey)
    where
      -- y has heard of x again, and is as far
      fourth : (l : Both alone n (6 * alone.keeps.most + 9) x y) (a : Met alone l.then x y l.mx l.dx l.dy) (b : Met alone a.then y x a.my a.dy a.dx) →
          b.dy.agreeing.promised ≡ b.dx.agreeing.promised → b.my.lead ≢ suc b.dy.agreeing.promised → Met alone b.then x y b.my b.dy b.dx → Evens n (24 * alone.keeps.most + 42) x y
      fourth l a b bp nl c =
          record {
            then = c.then;
            even = record { mx = c.mx; dx = c.dx; my = c.my; dy = c.dy; x_is = c.x_is; y_is = c.y_is; x_level = c.x_level; y_level = c.y_level; vers = c.as_far nl b.far; proms = cp; x_not = c.not_led nl; y_not = λ e. p.ne (sym ((facts alone c.then y c.my c.dy p.ly c.y_is).own e) ∙ ap (λ k. k % 3) cp ∙ c.own) };
            cost = omega (arith, l.cost, a.cost, b.cost, c.cost);
          }
        where
          cp : c.dy.agreeing.promised ≡ c.dx.agreeing.promised
          cp = omega (arith, c.prom_is, c.low, bp)

      -- x has heard of y: its promise is y's ballot, so it doesn't lead, and y is no further
      third : (l : Both alone n (6 * alone.keeps.most + 9) x y) (a : Met alone l.then x y l.mx l.dx l.dy) → Met alone a.then y x a.my a.dy a.dx → Evens n (24 * alone.keeps.most + 42) x y
      third l a b = fourth l a b bp (λ e. p.ne (sym b.own ∙ ap (λ k. k % 3) (sym bp) ∙ (facts alone b.then x b.my b.dy p.lx b.y_is).own e)) (meets alone p b.then b.my b.mx b.dy b.dx b.y_is b.x_is b.y_level b.x_level)
        where
          bp : b.dy.agreeing.promised ≡ b.dx.agreeing.promised
          bp = omega (arith, b.prom_is, b.low, a.prom_is)

      -- y has heard of x, and is no less far
      second : (l : Both alone n (6 * alone.keeps.most + 9) x y) → Met alone l.then x y l.mx l.dx l.dy → Evens n (24 * alone.keeps.most + 42) x y
      second l a = third l a (meets alone (swap alone p) a.then a.my a.mx a.dy a.dx a.y_is a.x_is a.y_level a.x_level)

      first : Both alone n (6 * alone.keeps.most + 9) x y → Evens n (24 * alone.keeps.most + 42) x y
      first l = second l (meets alone p l.then l.mx l.my l.dx l.dy l.x_is l.y_is l.x_level l.y_level)
