-- Document 01: states are numbered 0 to 68 in the order of `InternalState` (START 0, READY 29, SLEEP 31, RX 59).
use Rattle.std.specs.Prelude.{ℕ, cond, [], ◌∷◌, eqb}
use Rattle.rf233.specs.Choice.{one_of}
use Rattle.rf233.specs.declared.state.InternalState.{InternalState}
use Rattle.rf233.specs.declared.state.InternalState.TheVariants as state

-- the number of a state
abbrev pub state_no : InternalState → ℕ
state_no state.START = 0
state_no state.START_PART_READ = 1
state_no state.START_STATUS_READ = 2
state_no state.START_TURNING_OFF = 3
state_no state.START_CTRL1_SET = 4
state_no state.START_CCA_SET = 5
state_no state.START_PWR_SET = 6
state_no state.START_CTRL2_SET = 7
state_no state.START_IRQMASK_SET = 8
state_no state.START_XAH1_SET = 9
state_no state.START_XAH0_SET = 10
state_no state.START_PANID0_SET = 11
state_no state.START_PANID1_SET = 12
state_no state.START_IEEE0_SET = 13
state_no state.START_IEEE1_SET = 14
state_no state.START_IEEE2_SET = 15
state_no state.START_IEEE3_SET = 16
state_no state.START_IEEE4_SET = 17
state_no state.START_IEEE5_SET = 18
state_no state.START_IEEE6_SET = 19
state_no state.START_IEEE7_SET = 20
state_no state.START_SHORT0_SET = 21
state_no state.START_SHORT1_SET = 22
state_no state.START_CSMA_0_SEEDED = 23
state_no state.START_CSMA_1_SEEDED = 24
state_no state.START_RPC_SET = 25
state_no state.ON_STATUS_READ = 26
state_no state.ON_PLL_WAITING = 27
state_no state.ON_PLL_SET = 28
state_no state.READY = 29
state_no state.SLEEP_TRX_OFF = 30
state_no state.SLEEP = 31
state_no state.SLEEP_WAKE = 32
state_no state.TX_STATUS_PRECHECK1 = 33
state_no state.TX_WRITING_FRAME = 34
state_no state.TX_WRITING_FRAME_DONE = 35
state_no state.TX_STATUS_PRECHECK2 = 36
state_no state.TX_PLL_START = 37
state_no state.TX_PLL_WAIT = 38
state_no state.TX_ARET_ON = 39
state_no state.TX_TRANSMITTING = 40
state_no state.TX_READ_ACK = 41
state_no state.TX_DONE = 42
state_no state.TX_RETURN_TO_RX = 43
state_no state.TX_PENDING = 44
state_no state.CONFIG_SHORT0_SET = 45
state_no state.CONFIG_SHORT1_SET = 46
state_no state.CONFIG_PAN0_SET = 47
state_no state.CONFIG_PAN1_SET = 48
state_no state.CONFIG_IEEE0_SET = 49
state_no state.CONFIG_IEEE1_SET = 50
state_no state.CONFIG_IEEE2_SET = 51
state_no state.CONFIG_IEEE3_SET = 52
state_no state.CONFIG_IEEE4_SET = 53
state_no state.CONFIG_IEEE5_SET = 54
state_no state.CONFIG_IEEE6_SET = 55
state_no state.CONFIG_IEEE7_SET = 56
state_no state.CONFIG_POWER_SET = 57
state_no state.CONFIG_DONE = 58
state_no state.RX = 59
state_no state.RX_TURNING_OFF = 60
state_no state.RX_READY_TO_READ = 61
state_no state.RX_START_READING = 62
state_no state.RX_READING_FRAME_LEN = 63
state_no state.RX_READING_FRAME_LEN_DONE = 64
state_no state.RX_READING_FRAME = 65
state_no state.RX_READING_FRAME_DONE = 66
state_no state.RX_READING_FRAME_FCS_DONE = 67
state_no state.RX_ENABLING_RECEPTION = 68

-- the frame transfer that the state numbered n names: 1 a frame read (63, 65), 2 a frame write (34), 0 none
abbrev pub state_frame : ℕ → ℕ
state_frame n = cond (eqb n 34) 2 (cond (one_of (63 ∷ 65 ∷ []) n) 1 0)
