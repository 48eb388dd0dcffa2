-- Listeners made present or absent (document 01: "Each notice has a listener, present or absent as a call says, absent at first").
use Rattle.std.specs.Prelude.{Bool}
use Rattle.rf233.specs.Driver.{listening, with_clients}
use Rattle.rf233.specs.declared.driver.Client.{Client}
use Rattle.rf233.specs.declared.driver.Driver.{Driver}

-- the driver with one listener made present or absent
abbrev pub set_client : Client → Driver → Bool → Driver
set_client x d v = with_clients (listening x v d.clients) d
