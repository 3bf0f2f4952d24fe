use Rattle.wac_encode_values.proofs.Sized.{list-short, fixed-short, option-short, result-short, stream-short, future-short}
use Rattle.wac_encode_values.proofs.rows.plain_definition.Goals as goal

pub returns-in-List-clause-short : goal.returns-in-List-clause-short
returns-in-List-clause-short c = list-short c.value_at.result c.value_at.ensures.short

pub returns-in-FixedSizeList-clause-short : goal.returns-in-FixedSizeList-clause-short
returns-in-FixedSizeList-clause-short c = fixed-short c.value_at-in-FixedSizeList.result c.in-FixedSizeList.size c.value_at-in-FixedSizeList.ensures.short c.index_law.ensures

pub returns-in-Option-clause-short : goal.returns-in-Option-clause-short
returns-in-Option-clause-short c = option-short c.value_at-in-Option.result c.value_at-in-Option.ensures.short

pub returns-in-Result-clause-short : goal.returns-in-Result-clause-short
returns-in-Result-clause-short c = result-short c.optional_at.result c.optional_at-in-Result.result c.optional_at.ensures.short c.optional_at-in-Result.ensures.short

pub returns-in-Stream-clause-short : goal.returns-in-Stream-clause-short
returns-in-Stream-clause-short c = stream-short c.optional_at-in-Stream.result c.optional_at-in-Stream.ensures.short

pub returns-in-Future-clause-short : goal.returns-in-Future-clause-short
returns-in-Future-clause-short c = future-short c.optional_at-in-Future.result c.optional_at-in-Future.ensures.short
