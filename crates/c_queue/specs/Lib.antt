pub mod RecordQueue
