pub mod ContentHeader
