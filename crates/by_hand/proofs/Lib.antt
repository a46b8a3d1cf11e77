pub mod ReadStreams
