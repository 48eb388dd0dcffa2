-- The bits of IRQ_STATUS and IRQ_MASK (AT86RF233 datasheet, "Interrupt Logic").
use Rattle.std.specs.Prelude.{ℕ}
use Rattle.rf233_const.specs.declared.interrupt.InteruptFlags.{InteruptFlags}
use Rattle.rf233_const.specs.declared.interrupt.InteruptFlags.TheVariants.{
  IRQ_7_BAT_LOW,
  IRQ_6_TRX_UR,
  IRQ_5_AMI,
  IRQ_4_CCA_ED_DONE,
  IRQ_3_TRX_END,
  IRQ_2_RX_START,
  IRQ_1_PLL_UNLOCK,
  IRQ_0_PLL_LOCK,
}

-- The number of an interrupt's bit.
abbrev pub interrupt_bit : InteruptFlags → ℕ
interrupt_bit IRQ_7_BAT_LOW = 7
interrupt_bit IRQ_6_TRX_UR = 6
interrupt_bit IRQ_5_AMI = 5
interrupt_bit IRQ_4_CCA_ED_DONE = 4
interrupt_bit IRQ_3_TRX_END = 3
interrupt_bit IRQ_2_RX_START = 2
interrupt_bit IRQ_1_PLL_UNLOCK = 1
interrupt_bit IRQ_0_PLL_LOCK = 0
