pub mod RecordBlocks
