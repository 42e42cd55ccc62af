-- A layer, and a house, stays within the device if the machine below does: all that it asks of the device is asked by the machine.
use Rattle.disks.specs.Device.{Machine, Within}
use Rattle.disks.specs.Cluster
use Rattle.disks.specs.Over.{HouseOn, house_over}

abbrev pub HousesWithin : Type 1
HousesWithin = (C R M O Q : Type 0) (e : Machine C R) (h : HouseOn C R M O Q) → Within e → Cluster.Within (house_over e h)
