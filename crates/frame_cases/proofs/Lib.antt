mod More
