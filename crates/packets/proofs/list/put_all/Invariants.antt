use Rattle.std.proofs.Common.{◌≡◌, ◌++◌, take, T}
use Rattle.std.specs.List.{flat_map, list_all}
use Rattle.packets.proofs.list.put_all.Given as goal

abbrev pub invariant-loop-item : goal.invariant-loop-item
invariant-loop-item g l = record {
  spelled : l.out.items ≡ l.fn.out.items ++ flat_map (λ x. g.T.Bytes.codec.bytes (g.T.Bytes.view x)) (take l.item-index l.items);
  fits : T (list_all (λ x. g.T.Bytes.codec.fits (g.T.Bytes.view x)) (take l.item-index l.items));
}
